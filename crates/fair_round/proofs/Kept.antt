-- What a worker keeps, as it goes on.
use Rattle.std.proofs.Common.{◌≡◌, ℕ, ◌+◌, ◌*◌, ◌^◌, ◌≤◌, Option, None, Some, IfSome, Result, Ok, Err, IfOk, OnOk, OnErr, List, [], ◌++◌, length, refl, sym, subst, ◌∙◌, ap}
use Rattle.std.specs.List.{All}
use Rattle.std.proofs.lemmas.List.{append_assoc, append-nil}
use Rattle.std.proofs.lemmas.List.Elements.{All-weaker}
use Rattle.aig_semantics.specs.Circuits.{Circuit}
use Rattle.proof_semantics.specs.declared.literals.Lit.{Lit}
use Rattle.entry.specs.CheckedEntries.{GoesOnFrom}
use Rattle.fair_semantics.specs.Entries.{Entry}
use Rattle.skeleton.specs.Finding.{BeginsNone}
use Rattle.skeleton.specs.Laws.{NeverStays}
use Rattle.ic3_semantics.specs.declared.questions.Start.TheVariants.{Initial}
use Rattle.ic3.specs.Searches.{Searching, steps_left}
use Rattle.fair_round.specs.Stems.{IsFit}
use Rattle.fair_round.proofs.Counting.{path_steps-is}

pub goes-on-then : (xs ys zs : List Entry) → GoesOnFrom xs ys → GoesOnFrom ys zs → GoesOnFrom xs zs
goes-on-then xs ys zs (more, e) (rest, f) = (more ++ rest, f ∙ ap (λ us. us ++ rest) e ∙ append_assoc xs more rest)

-- a list that has become the view, or stayed
pub caught-grows : {T E : Type 0} (r : Result T E) (old new view : List Entry) → OnOk r (new ≡ view) → OnErr r (new ≡ old)
    → GoesOnFrom old view → GoesOnFrom old new
caught-grows (Ok t) old new view caught kept on = subst (GoesOnFrom old) (sym caught) on
caught-grows (Err e) old new view caught kept on = ([], kept ∙ sym (append-nil old))

pub on-err : {T E : Type 0} {P Q : Type 0} (r : Result T E) → (P → Q) → OnErr r P → OnErr r Q
on-err (Ok t) then h = tt
on-err (Err e) then h = then h

-- the same of a circuit, a property and entries that are these
pub avoid-as : (c d : Circuit) (j i : ℕ) (xs ys : List Entry) (avoid : List (List Lit)) → c ≡ d → j ≡ i → xs ≡ ys
    → All (BeginsNone c j xs) avoid → All (BeginsNone d i ys) avoid
avoid-as c d j i xs ys avoid e f g h =
    subst (λ k. All (BeginsNone k i ys) avoid) e
    (subst (λ m. All (BeginsNone c m ys) avoid) f (subst (λ zs. All (BeginsNone c j zs) avoid) g h))

-- in cubes in which no skeleton begins none does under more entries
pub avoid-grows : NeverStays → (c : Circuit) (j : ℕ) (xs ys : List Entry) (avoid : List (List Lit)) → GoesOnFrom xs ys
    → All (BeginsNone c j xs) avoid → All (BeginsNone c j ys) avoid
avoid-grows stays c j xs ys avoid (more, e) h =
    subst (λ zs. All (BeginsNone c j zs) avoid) (sym e)
    (All-weaker (BeginsNone c j xs) (BeginsNone c j (xs ++ more)) (λ cube begins. stays c j xs more cube begins) avoid h)

-- a search that fits a view fits one that goes on from it
pub fit-grows : (c : Circuit) (xs ys : List Entry) (found : Option Searching) → GoesOnFrom xs ys
    → IfSome found (IsFit c xs) → IfSome found (IsFit c ys)
fit-grows c xs ys None on h = h
fit-grows c xs ys (Some s) on h =
    record { circuit = h.circuit; start = h.start; on = goes-on-then s.view xs ys h.on on; left = h.left }

-- the same of a circuit and entries that are these
pub fit-as : (c d : Circuit) (xs ys : List Entry) (s : Searching) → c ≡ d → xs ≡ ys → IsFit c xs s → IsFit d ys s
fit-as c d xs ys s e f h = subst (λ k. IsFit k ys s) e (subst (λ zs. IsFit c zs s) f h)

-- a search that was asked nothing fits all entries
new-fit : (c : Circuit) (view : List Entry) (s : Searching) → s ≡ record { circuit = c; start = Initial; view = []; levels = [] }
    → steps_left s ≤ (2 ^ length c.latches + 2) * (2 ^ length c.latches + 2) → IsFit c view s
new-fit c view s is left = record {
  circuit = ap (λ (t : Searching). t.circuit) is;
  start = ap (λ (t : Searching). t.start) is;
  on = subst (λ xs. GoesOnFrom xs view) (sym (ap (λ (t : Searching). t.view) is)) (view, refl);
  left = subst (λ (r : ℕ). steps_left s ≤ r) (sym (path_steps-is (length c.latches))) left;
}

pub new-fits : {E : Type 0} (c : Circuit) (r : Result Searching E)
    → IfOk r (λ made. made ≡ record { circuit = c; start = Initial; view = []; levels = [] })
    → IfOk r (λ made. steps_left made ≤ (2 ^ length c.latches + 2) * (2 ^ length c.latches + 2))
    → IfOk r (λ made. (view : List Entry) → IsFit c view made)
new-fits c (Ok made) is left = λ view. new-fit c view made is left
new-fits c (Err e) is left = tt

pub made-fit : {E : Type 0} (c d : Circuit) (view : List Entry) (r : Result Searching E) → c ≡ d
    → IfOk r (λ made. (seen : List Entry) → IsFit c seen made) → IfOk r (IsFit d view)
made-fit c d view (Ok made) e fits = subst (λ k. IsFit k view made) e (fits view)
made-fit c d view (Err refused) e fits = tt
