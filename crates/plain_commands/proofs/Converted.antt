-- What `convert` prints is the answer's conversion.
use Rattle.std.proofs.Common.{◌≡◌, ◌≤◌, ℕ, List, length, refl, sym, subst, Ok, Err}
use Rattle.std.specs.Prelude.{Result, IfOk}
use Rattle.aig_semantics.specs.Circuits.{Circuit}
use Rattle.answer_lines.specs.Left.{most_bytes}
use Rattle.certificate.specs.declared.ends.Accepted.{Accepted}
use Rattle.certificate.specs.declared.loaded.Loaded.{Loaded}
use Rattle.certificate.specs.declared.loaded.Loaded.TheVariants.{Lasso, Holds}
use Rattle.certificate.specs.Answers.{IsGood}
use Rattle.certificate.specs.Loading.{HoldsAnswer, accepted_of, printed_text, printed_again}
use Rattle.certificate.specs.Laws.{HeldIsGood, PrintedHoldsTheSame}
use Rattle.plain_commands.specs.Convert.{IsConversion}

same_accepted : (loaded : Loaded) → accepted_of (printed_again loaded) ≡ accepted_of loaded
same_accepted (Lasso n stimulus lasso) = refl
same_accepted (Holds n certificate) = refl

conversion : (c : Circuit) (loaded : Loaded) (text claimed : List ℕ) → HeldIsGood c → PrintedHoldsTheSame c → text ≡ printed_text loaded → length text ≤ most_bytes → HoldsAnswer c claimed loaded
    → IsConversion c claimed text
conversion c loaded text claimed good same spelled within has =
    let again : HoldsAnswer c (printed_text loaded) (printed_again loaded) = same claimed loaded has (subst (λ t. length t ≤ most_bytes) spelled within) in
    let printed_good : IsGood c (printed_text loaded) (accepted_of loaded) =
    subst (λ (a : Accepted). IsGood c (printed_text loaded) a) (same_accepted loaded) (good (printed_text loaded) (printed_again loaded) again) in
    record {
      loaded = loaded;
      has = has;
      printed = spelled;
      good = good claimed loaded has;
      good_again = subst (λ t. IsGood c t (accepted_of loaded)) (sym spelled) printed_good;
    }

pub converts : {T E : Type 0} (items : T → List ℕ) (c : Circuit) (loaded : Loaded) (result : Result T E) → HeldIsGood c → PrintedHoldsTheSame c
    → IfOk result (λ text. items text ≡ printed_text loaded) → IfOk result (λ text. length (items text) ≤ most_bytes)
    → IfOk result (λ text. (claimed : List ℕ) → HoldsAnswer c claimed loaded → IsConversion c claimed (items text))
converts items c loaded (Ok text) good same spelled within = λ claimed has. conversion c loaded (items text) claimed good same spelled within has
converts items c loaded (Err refused) good same spelled within = tt
