-- The clauses over a view that goes on from what was seen.
use Rattle.std.proofs.Common.{◌≡◌, ℕ, ◌+◌, false, List, [], ◌∷◌, ◌++◌, length, refl, sym, ap, ◌∙◌, subst, append_assoc, arith}
use Rattle.std.specs.declared.sync.Arc.{Arc}
use Rattle.std.proofs.lemmas.Bool.{true≢false}
use Rattle.std.proofs.lemmas.List.{append-nil, length-append, length-map}
use Rattle.aig_semantics.specs.Circuits.{Circuit, fair_literals}
use Rattle.proof_semantics.specs.declared.literals.Lit.{Lit}
use Rattle.fair_semantics.specs.Entries.{Entry, Numbered, numbered_from, numbered}
use Rattle.cnf_unroll.specs.Uses.{Numbering, free_from, use_clauses, after_use, uses_clauses}
use Rattle.cnf_unroll.specs.Obligations.{block_count, blocks_clauses, blocks_places, literals_clauses, after_blocks, skeleton_clauses}
use Rattle.entry.specs.CheckedEntries.{CheckedEntry, entry_in, viewed, GoesOnFrom}
use Rattle.skeleton.specs.declared.known.Known.{Known}
use Rattle.skeleton.specs.Keeping.{IsFront, IsBegun}

-- ---- the clauses over more entries begin with those over the earlier ones

front_on : (a b c : List (List Lit)) → IsFront a b → IsFront b c → IsFront a c
front_on a b c (more, e) (rest, f) = (more ++ rest, f ∙ ap (λ clauses. clauses ++ rest) e ∙ append_assoc a more rest)

numbers_on : (n : ℕ) (earlier more : List Entry) → (later : List Numbered) × (numbered_from n (earlier ++ more) ≡ numbered_from n earlier ++ later)
numbers_on n [] more = (numbered_from n more, refl)
numbers_on n (e ∷ earlier) more =
    let h = numbers_on (n + 1) earlier more in
    (h.0, ap (λ us. record { number = n; entry = e } ∷ us) h.1)

uses_on : (places : List (List ℕ)) (n : Numbering) (us more : List Numbered) → IsFront (uses_clauses places n us) (uses_clauses places n (us ++ more))
uses_on places n [] more = (uses_clauses places n more, refl)
uses_on places n (u ∷ us) more =
    let after = after_use places n u u.entry.kind in
    let here = use_clauses places n u.entry u.entry.kind in
    let h = uses_on places after us more in
    (h.0, ap (λ clauses. here ++ clauses) h.1 ∙ sym (append_assoc here (uses_clauses places after us) h.0))

-- the law of skeleton clauses over more uses
skeleton_on : (c : Circuit) (j : ℕ) (us more : List Numbered) → IsFront (skeleton_clauses c j us) (skeleton_clauses c j (us ++ more))
skeleton_on c j us more =
    let literals = fair_literals c j in
    let count = block_count literals in
    let before = blocks_clauses c 0 count ++ literals_clauses c 0 literals in
    let uses = uses_clauses (blocks_places c 0 count) (free_from (after_blocks c 0 count + 1)) us in
    let h = uses_on (blocks_places c 0 count) (free_from (after_blocks c 0 count + 1)) us more in
    (h.0, ap (λ clauses. before ++ clauses) h.1 ∙ sym (append_assoc before uses h.0))

clauses_go_on : (c : Circuit) (j : ℕ) (earlier entries : List Entry) → GoesOnFrom earlier entries
    → IsFront (skeleton_clauses c j (numbered earlier)) (skeleton_clauses c j (numbered entries))
clauses_go_on c j earlier entries (more, e) =
    let h = numbers_on 0 earlier more in
    let law = skeleton_on c j (numbered earlier) h.0 in
    (law.0, ap (λ es. skeleton_clauses c j (numbered es)) e ∙ ap (skeleton_clauses c j) h.1 ∙ law.1)

-- ---- what a query keeps

-- what was added is the front of the clauses over a view that goes on from what was seen
pub added_front : (c : Circuit) (j : ℕ) (known : Known) (entries : List Entry) (clauses : List (List Lit))
    → IsBegun c j known → GoesOnFrom (viewed known.seen) entries → clauses ≡ skeleton_clauses c j (numbered entries)
    → IsFront known.solver.added clauses
added_front c j known entries clauses begun on e =
    let earlier = skeleton_clauses c j (numbered (viewed known.seen)) in
    let all = skeleton_clauses c j (numbered entries) in
    subst (IsFront known.solver.added) (sym e)
    (front_on known.solver.added earlier all begun.front (clauses_go_on c j (viewed known.seen) entries on))

pub nothing_begun : (c : Circuit) (j : ℕ) (known : Known) → known.solver.added ≡ [] → known.whole ≡ false → IsBegun c j known
nothing_begun c j known none open_yet =
    let all = skeleton_clauses c j (numbered (viewed known.seen)) in
    record {
      front = (all, sym (ap (λ clauses. clauses ++ all) none));
      whole = λ is. absurd (true≢false (sym is ∙ open_yet));
    }

-- ---- views

pub goes_on_same : (xs ys : List Entry) → xs ≡ ys → GoesOnFrom xs ys
goes_on_same xs ys e = ([], sym e ∙ sym (append-nil xs))

all_seen : (xs ys more : List Entry) → ys ≡ xs ++ more → length ys ≡ length xs → xs ≡ ys
all_seen xs ys [] e same = sym (e ∙ append-nil xs)
all_seen xs ys (x ∷ more) e same = absurd (omega (arith, same, ap length e, length-append xs (x ∷ more)))

-- a view of as many entries as were seen is what was seen
pub seen_whole : {Z : Type 0} (seen view : List (Arc CheckedEntry Z)) → GoesOnFrom (viewed seen) (viewed view) → length seen ≡ length view
    → viewed seen ≡ viewed view
seen_whole seen view (more, e) same =
    all_seen (viewed seen) (viewed view) more e (length-map view entry_in ∙ sym same ∙ sym (length-map seen entry_in))
