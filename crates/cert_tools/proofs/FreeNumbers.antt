-- The next free number behind uses, as it is counted.
use Rattle.std.proofs.Common.{◌≡◌, ℕ, zero, suc, ◌+◌, ◌*◌, ◌<◌, ◌≤◌, List, [], ◌∷◌, length, get_or, drop, refl, sym, ap, ap₂, ◌∙◌, arith}
use Rattle.std.proofs.Math.Nat.{mul-suc}
use Rattle.std.proofs.lemmas.List.{drop_more, drop_all}
use Rattle.aig_semantics.specs.Circuits.{Circuit, fair_literals}
use Rattle.proof_semantics.specs.declared.literals.Lit.{Lit}
use Rattle.fair_semantics.specs.declared.entries.Kind.{Kind}
use Rattle.fair_semantics.specs.declared.entries.Kind.TheVariants.{Reach, Wall}
use Rattle.fair_semantics.specs.Entries.{Numbered}
use Rattle.cnf_unroll.specs.declared.used.Used.{Used}
use Rattle.cnf_unroll.specs.Numbers.{block_size, block_places}
use Rattle.cnf_unroll.specs.Uses.{Numbering, free_from, after_marks, after_use, after_uses}
use Rattle.cnf_unroll.specs.Lending.{lent_all}
use Rattle.cnf_unroll.specs.Obligations.{after_step, blocks_places, block_count, after_blocks}
use Rattle.cert_tools.specs.Exported.{after_skeleton}
use Rattle.cert_tools.specs.Exporting.{behind_use, behind_uses}

-- ---- one use on

pub behind_next : (places free next total : ℕ) (uses : List Used) (i : ℕ) (d : Used) → i < length uses → next ≡ behind_use places free (length (get_or uses i d).set.now) (get_or uses i d).kind
    → behind_uses places free (lent_all (drop i uses)) ≡ total → behind_uses places next (lent_all (drop (i + 1) uses)) ≡ total
behind_next places free next total uses i d below is so_far =
    ap (λ n. behind_uses places n (lent_all (drop (i + 1) uses))) is ∙ sym (ap (λ (us : List Used). behind_uses places free (lent_all us)) (drop_more uses i d below)) ∙ so_far

pub behind_done : (places free total : ℕ) (uses : List Used) (i : ℕ) → length uses ≤ i → behind_uses places free (lent_all (drop i uses)) ≡ total → free ≡ total
behind_done places free total uses i past so_far = sym (ap (λ (us : List Used). behind_uses places free (lent_all us)) (drop_all i uses past)) ∙ so_far

-- ---- over all places

marks_free : (set : List (List Lit)) (d : ℕ) (places : List (List ℕ)) → after_marks set d places ≡ d + length set * length places
marks_free set d [] = omega arith
marks_free set d (place ∷ places) =
    let rest = marks_free set (d + length set) places in
    let more : length set * suc (length places) ≡ length set * length places + length set = mul-suc (length set) (length places) in
    omega (arith, rest, more)

use_free : (places : List (List ℕ)) (n : Numbering) (u : Numbered) (kind : Kind) → (after_use places n u kind).free ≡ behind_use (length places) n.free (length u.entry.clauses) kind
use_free places n u Reach = refl
use_free places n u Wall = marks_free u.entry.clauses (n.free + 1) places

uses_free : (places : List (List ℕ)) (n : Numbering) (us : List Numbered) → (after_uses places n us).free ≡ behind_uses (length places) n.free us
uses_free places n [] = refl
uses_free places n (u ∷ us) =
    uses_free places (after_use places n u u.entry.kind) us ∙ ap (λ k. behind_uses (length places) k us) (use_free places n u u.entry.kind)

pub step_free : (c : Circuit) (us : List Numbered) (start : ℕ) → start ≡ 2 * c.max + 3 → behind_uses 2 start us ≡ (after_step c us).free
step_free c us start is =
    let first : start ≡ block_size c + 1 = omega (arith, is) in
    ap (λ n. behind_uses 2 n us) first ∙ sym (uses_free (block_places c 0) (free_from (block_size c + 1)) us)

-- ---- blocks

blocks_end : (c : Circuit) (base n : ℕ) → after_blocks c base n ≡ base + block_size c * n
blocks_end c base zero = omega arith
blocks_end c base (suc n) =
    let size : ℕ = block_size c in
    let rest : after_blocks c (base + size) n ≡ (base + size) + size * n = blocks_end c (base + size) n in
    let more : size * suc n ≡ size * n + size = mul-suc size n in rest ∙ (let sums : (base + size) + size * n ≡ base + size * suc n = omega (arith, more) in sums)

blocks_count : (c : Circuit) (base n : ℕ) → length (blocks_places c base n) ≡ n * 2
blocks_count c base zero = refl
blocks_count c base (suc n) = (let rest = blocks_count c (base + block_size c) n in omega (arith, rest))

pub skeleton_free : (c : Circuit) (j : ℕ) (us : List Numbered) (size blocks places start : ℕ) → size ≡ 2 * c.max + 2 → blocks ≡ block_count (fair_literals c j)
    → start ≡ 0 + 1 + size * blocks → places ≡ blocks * 2 → behind_uses places start us ≡ (after_skeleton c j us).free
skeleton_free c j us size blocks places start whole same begins two =
    let n : ℕ = block_count (fair_literals c j) in
    let end : after_blocks c 0 n ≡ 0 + block_size c * n = blocks_end c 0 n in
    let product : size * blocks ≡ block_size c * n = ap₂ (λ (a b : ℕ). a * b) whole same in
    let first : start ≡ after_blocks c 0 n + 1 = omega (arith, begins, product, end) in
    let all : places ≡ length (blocks_places c 0 n) = two ∙ ap (λ (k : ℕ). k * 2) same ∙ sym (blocks_count c 0 n) in
    ap₂ (λ (p f : ℕ). behind_uses p f us) all first ∙ sym (uses_free (blocks_places c 0 n) (free_from (after_blocks c 0 n + 1)) us)
