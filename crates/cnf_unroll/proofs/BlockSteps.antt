-- One more block.
use Rattle.std.proofs.Common.{◌≡◌, ℕ, suc, ◌+◌, List, ◌++◌, sym, ap, ◌∙◌, append_assoc}
use Rattle.aig_semantics.specs.Circuits.{Circuit}
use Rattle.cnf_unroll.specs.Numbers.{block_size, block_places}
use Rattle.cnf_unroll.specs.Blocks.{block_clauses}
use Rattle.cnf_unroll.specs.Obligations.{blocks_clauses, blocks_places, after_blocks}

-- what stands there grows by the first part of the rest
pub moved : {X : Type 0} (old new part rest whole all : List X) → new ≡ old ++ part → whole ≡ part ++ rest → old ++ whole ≡ all → new ++ rest ≡ all
moved old new part rest whole all e f g = ap (λ x. x ++ rest) e ∙ append_assoc old part rest ∙ ap (λ x. old ++ x) (sym f) ∙ g

pub blocks_more : (c : Circuit) (base n m : ℕ) → n ≡ suc m → blocks_clauses c base n ≡ block_clauses c base ++ blocks_clauses c (base + block_size c) m
blocks_more c base n m e = ap (λ x. blocks_clauses c base x) e

pub places_more : (c : Circuit) (base n m : ℕ) → n ≡ suc m → blocks_places c base n ≡ block_places c base ++ blocks_places c (base + block_size c) m
places_more c base n m e = ap (λ x. blocks_places c base x) e

pub after_more : (c : Circuit) (base n m : ℕ) → n ≡ suc m → after_blocks c base n ≡ after_blocks c (base + block_size c) m
after_more c base n m e = ap (λ x. after_blocks c base x) e
