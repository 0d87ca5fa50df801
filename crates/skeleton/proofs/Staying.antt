-- What is never a first state stays never.
use Rattle.std.proofs.Common.{ℕ, List, ◌++◌}
use Rattle.aig_semantics.specs.Circuits.{Circuit}
use Rattle.fair_semantics.specs.declared.skeletons.Skeleton.{Skeleton}
use Rattle.fair_semantics.specs.Entries.{Entry}
use Rattle.fair_semantics.specs.Skeletons.{places}
use Rattle.fair_semantics.proofs.Staying.{front_allows}
use Rattle.skeleton.specs.Finding.{IsAllowed}
use Rattle.skeleton.specs.Laws.{NeverStays}

fewer_allow : (c : Circuit) (j : ℕ) (entries more : List Entry) (s : Skeleton)
    → IsAllowed c j (entries ++ more) s → IsAllowed c j entries s
fewer_allow c j entries more s is = record {
  skeleton = is.skeleton;
  allowed = front_allows entries more (places s) is.allowed;
}

pub never_stays : NeverStays
never_stays c j entries more cube begins = record {
  over = begins.over;
  none = λ s is. begins.none s (fewer_allow c j entries more s is);
}
