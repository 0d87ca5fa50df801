-- The laws of a text that is cut at a byte.
use Rattle.std.proofs.Common.{◌≡◌, ◌≢◌, ℕ, Bool, true, false, cond, eqb, List, [], ◌∷◌, refl, ap, sym, ◌∙◌, true≢false}
use Rattle.std.proofs.lemmas.Bool.{ne_eqb, eq-eqb}
use Rattle.std.specs.List.{onto_first, join_with_byte, All}
use Rattle.std.proofs.lemmas.List.Elements.{All-cons, All-head, All-tail, All-nil, All-weaker}
use Rattle.std.proofs.lemmas.List.Splits.{slice_split_none, slice_split_at, join_with_byte-slice_split}
use Rattle.text_grammar.specs.Pieces.{Lacks, cut_at}
use Rattle.text_grammar.specs.Laws.{JoinsPieces, PiecesLackByte, CutsJoined, CutsFirst, CutsNone}

-- where the byte is lacked, the test for it fails everywhere
lacked_fails : (byte : ℕ) (bytes : List ℕ) → Lacks bytes byte → All (λ b. eqb b byte ≡ false) bytes
lacked_fails byte bytes lacks = All-weaker (λ b. b ≢ byte) (λ b. eqb b byte ≡ false) (λ b differs. ne_eqb b byte differs) bytes lacks

pub joins_pieces : JoinsPieces
joins_pieces byte bytes = join_with_byte-slice_split byte bytes

pub cuts_none : CutsNone
cuts_none byte bytes lacks = slice_split_none (λ b. eqb b byte) bytes (lacked_fails byte bytes lacks)

pub cuts_first : CutsFirst
cuts_first byte piece bytes rest cut =
    ap (cut_at byte) cut.spelled
    ∙ slice_split_at (λ b. eqb b byte) piece byte rest (lacked_fails byte piece cut.first) (eq-eqb byte byte refl)

-- a byte that differs, put in front of the first piece, leaves the pieces without the byte
onto_first_lacks : (byte b : ℕ) (pieces : List (List ℕ)) → b ≢ byte → All (λ p. Lacks p byte) pieces → All (λ p. Lacks p byte) (onto_first b pieces)
onto_first_lacks byte b [] differs lack = All-cons (λ p. Lacks p byte) (b ∷ []) [] (All-cons (λ x. x ≢ byte) b [] differs (All-nil _)) (All-nil _)
onto_first_lacks byte b (piece ∷ pieces) differs lack =
    All-cons (λ p. Lacks p byte) (b ∷ piece) pieces (All-cons (λ x. x ≢ byte) b piece differs (All-head (λ p. Lacks p byte) piece pieces lack)) (All-tail (λ p. Lacks p byte) piece pieces lack)

-- the step of the law below, by what the test for the byte says
cons_lacks : (byte b : ℕ) (bytes : List ℕ) (test : Bool) → eqb b byte ≡ test → All (λ p. Lacks p byte) (cut_at byte bytes)
    → All (λ p. Lacks p byte) (cond test ([] ∷ cut_at byte bytes) (onto_first b (cut_at byte bytes)))
cons_lacks byte b bytes true is lack = All-cons (λ p. Lacks p byte) [] (cut_at byte bytes) (All-nil _) lack
cons_lacks byte b bytes false is lack = onto_first_lacks byte b (cut_at byte bytes) (λ same. absurd (true≢false (sym (eq-eqb b byte same) ∙ is))) lack

pub pieces_lack_byte : PiecesLackByte
pieces_lack_byte byte [] = All-cons (λ p. Lacks p byte) [] [] (All-nil _) (All-nil _)
pieces_lack_byte byte (b ∷ bytes) = cons_lacks byte b bytes (eqb b byte) refl (pieces_lack_byte byte bytes)

pub cuts_joined : CutsJoined
cuts_joined byte piece [] lack = cuts_none byte piece (All-head (λ p. Lacks p byte) piece [] lack)
cuts_joined byte piece (next ∷ pieces) lack =
    cuts_first byte piece _ (join_with_byte byte (next ∷ pieces))
    (record { spelled = refl; first = All-head (λ p. Lacks p byte) piece (next ∷ pieces) lack })
    ∙ ap (λ ps. piece ∷ ps) (cuts_joined byte next pieces (All-tail (λ p. Lacks p byte) piece (next ∷ pieces) lack))
