-- How the loading of the entries of an answer ends.
use Rattle.std.proofs.Common.{◌≡◌, inl, inr, ℕ, ◌<◌, ◌≤◌, Bool, true, false, List, [], length, refl, sym, ap, ◌∙◌, subst, arith, codes, Some, Ok, Err}
use Rattle.std.specs.Prelude.{Option, Result, IfOk}
use Rattle.std.proofs.lemmas.Bool.{false≢true}
use Rattle.aig_semantics.specs.Circuits.{Circuit}
use Rattle.edge.specs.InMemory.{ShelfInMemory, text_of}
use Rattle.edge.specs.Reads.{Reads}
use Rattle.edge.specs.Told.{MayBe}
use Rattle.edge.proofs.Steady.{ReadsInMemory, no_read_fails}
use Rattle.unless_memory.specs.Answers.{GivesSome}
use Rattle.answer_lines.specs.Left.{most_bytes}
use Rattle.entry.specs.declared.entries.Entry.{Entry as WithProofs}
use Rattle.certificate.specs.declared.ends.AnswerEnd.{AnswerEnd}
use Rattle.certificate.specs.declared.ends.AnswerEnd.TheVariants as ends
use Rattle.certificate.specs.declared.ends.AnswerFault.{AnswerFault}
use Rattle.certificate.specs.declared.ends.AnswerFault.TheVariants.{UnknownStatus}
use Rattle.certificate.specs.declared.limits.TheConstants.{MAX_ENTRIES}
use Rattle.certificate.specs.declared.loaded.Loaded.{Loaded}
use Rattle.certificate.specs.declared.loaded.Loaded.TheVariants.{Lasso, Holds}
use Rattle.certificate_texts.specs.declared.certificates.Certificate.{Certificate}
use Rattle.certificate.specs.Lines.{readable}
use Rattle.certificate.specs.Ends.{CheckSays, IsRefused, has_unread}
use Rattle.certificate.specs.Laws.{GoodHasNoFault, OneFault}
use Rattle.certificate.specs.Loading.{HoldsAnswer, IsHeld, IsHeldOf, accepted_of, accepted_in}
use Rattle.certificate.proofs.Printed.{held_is_good}
use Rattle.cert_tools.specs.Laws.{OneHeld}
use Rattle.text_grammar.specs.Lines.{lines_of}
use Rattle.given_entries.specs.Given.{claims_lasso, AreEntriesOf, HasEntries, IsRefusedFor, HasNoEntries, DecidesEntries, AreProvedInTurn}
use Rattle.given_entries.specs.Taking.{IsNoLasso, IsTaken}
use Rattle.given_entries.proofs.Texts.{claims_first, claims_readable}
use Rattle.given_entries.proofs.Entries.{one_list, as_many, proved_in_turn}

abbrev Loading : Type 0
Loading = Result Loaded AnswerEnd

abbrev Given : Type 0
Given = Result (List WithProofs) AnswerEnd

-- ---- a text in memory

pub held : (c : Circuit) (told : Option (List ℕ)) (end : Loading) → IfOk end (IsHeldOf c told) → IfOk end (IsHeld c)
held c told (Ok loaded) (text, may, has) = (text, has)
held c told (Err end) h = tt

status_one : (c : Circuit) (text : List ℕ) (loaded : Loaded) → length text ≤ most_bytes → claims_lasso (lines_of text) ≡ false → HoldsAnswer c text loaded → IsNoLasso loaded
status_one c text (Holds n certificate) short claims h = tt
status_one c text (Lasso n s lasso) short claims (there, small, (others, (below, opens), spelled), stands, is) =
    absurd (false≢true (sym claims ∙ claims_first 1 (lines_of text) (codes "1") _ opens))

pub no_lasso : (c : Circuit) (text : List ℕ) (end : Loading) → length text ≤ most_bytes → claims_lasso (lines_of text) ≡ false → IfOk end (IsHeldOf c (Some text)) → IfOk end IsNoLasso
no_lasso c text (Ok loaded) short claims (other, may, has) =
    status_one c text loaded short claims (subst (λ (t : List ℕ). HoldsAnswer c t loaded) (sym (may text refl)) has)
no_lasso c text (Err end) short claims h = tt

-- no call of the shelf fails
pub never_unread : (end : Loading) (name text : List ℕ) (old new : ShelfInMemory) → old.failing ≡ [] → text_of old.texts name ≡ Some text
    → Reads ReadsInMemory name (has_unread end) old new → end ≡ Err ends.ReadFault → ⊥
never_unread end name text old new steady told reads is =
    no_read_fails name text old new steady told (subst (λ (e : Loading). Reads ReadsInMemory name (has_unread e) old new) is reads)

not_claimed : (text : List ℕ) → length text ≤ most_bytes → claims_lasso (lines_of text) ≡ false → claims_lasso (readable text) ≡ false
not_claimed text short claims = claims_readable text short ∙ claims

pub taken_decides : (c : Circuit) (text : List ℕ) (end : Loading) (result : Given) → length text ≤ most_bytes → claims_lasso (lines_of text) ≡ false
    → CheckSays c (Some text) (accepted_in end) → IfOk end (IsHeldOf c (Some text)) → (end ≡ Err ends.ReadFault → ⊥) → IsTaken c end result
    → GivesSome (Err ends.Memory) (DecidesEntries c text) result
taken_decides c text (Ok (Lasso n s lasso)) result short claims says h read taken = absurd taken
taken_decides c text (Ok (Holds n certificate)) (Ok entries) short claims says (other, may, has) read taken =
    inl (n, certificate, subst (λ (t : List ℕ). HoldsAnswer c t (Holds n certificate)) (sym (may text refl)) has, taken)
taken_decides c text (Ok (Holds n certificate)) (Err end) short claims says h read taken = inr (ap Err taken)
taken_decides c text (Err (ends.Refused fault)) result short claims (inl (inl wrong)) h read taken = absurd (cc wrong)
taken_decides c text (Err (ends.Refused fault)) result short claims (inr wrong) h read taken = absurd (cc wrong)
taken_decides c text (Err (ends.Refused fault)) result short claims (inl (inr (other, may, refused))) h read taken =
    let here : IsRefused c text fault = subst (λ (t : List ℕ). IsRefused c t fault) (sym (may text refl)) refused in
    inl (subst (DecidesEntries c text) (sym taken) (subst (λ (b : Bool). IsRefusedFor b c text fault) (sym (not_claimed text short claims)) here))
taken_decides c text (Err ends.ReadFault) result short claims says h read taken = absurd (read refl)
taken_decides c text (Err ends.Memory) result short claims says h read taken = inr taken

-- a stimulus is refused at once
pub unknown_decides : (c : Circuit) (text : List ℕ) → length text ≤ most_bytes → claims_lasso (lines_of text) ≡ true
    → DecidesEntries c text (Err (ends.Refused UnknownStatus))
unknown_decides c text short claims =
    subst (λ (b : Bool). IsRefusedFor b c text UnknownStatus) (sym (claims_readable text short ∙ claims)) refl

-- ---- one end

-- a text decides one end
refused_two : (c : Circuit) (text : List ℕ) (b : Bool) (f g : AnswerFault) → OneFault c → IsRefusedFor b c text f → IsRefusedFor b c text g → f ≡ g
refused_two c text true f g one h k = h ∙ sym k
refused_two c text false f g one h k = one text f g h k

entries_claim : (c : Circuit) (text : List ℕ) (entries : List WithProofs) → HasEntries c text entries → claims_lasso (readable text) ≡ false
entries_claim c text entries (n, certificate, (there, short, (small, opens), good), are) =
    claims_readable text short ∙ claims_first 1 (lines_of text) (codes "0") _ opens

never_both : (c : Circuit) (text : List ℕ) (entries : List WithProofs) (fault : AnswerFault) → GoodHasNoFault c → HasEntries c text entries → HasNoEntries c text fault → ⊥
never_both c text entries fault apart has none =
    let refused : IsRefused c text fault = subst (λ (b : Bool). IsRefusedFor b c text fault) (entries_claim c text entries has) none in
    apart text (accepted_of (Holds has.0 has.1)) fault (held_is_good c text (Holds has.0 has.1) has.2) refused

entries_two : (c : Circuit) (text : List ℕ) (a b : List WithProofs) → OneHeld c → HasEntries c text a → HasEntries c text b → a ≡ b
entries_two c text a b one (n, first, h, ones) (m, second, k, others) =
    let same : Holds n first ≡ Holds m second = one text (Holds n first) (Holds m second) h k in
    let certificate : first ≡ second = cc same in
    one_list c second.entries a b (subst (λ (x : Certificate). AreEntriesOf c x.entries a) certificate ones) others

pub decides_two : (c : Circuit) (text : List ℕ) (a b : Given) → OneHeld c → GoodHasNoFault c → OneFault c → DecidesEntries c text a → DecidesEntries c text b → a ≡ b
decides_two c text (Ok a) (Ok b) one apart fault h k = ap Ok (entries_two c text a b one h k)
decides_two c text (Ok a) (Err (ends.Refused f)) one apart fault h k = absurd (never_both c text a f apart h k)
decides_two c text (Err (ends.Refused f)) (Ok b) one apart fault h k = absurd (never_both c text b f apart k h)
decides_two c text (Err (ends.Refused f)) (Err (ends.Refused g)) one apart fault h k =
    ap (λ (x : AnswerFault). Err (ends.Refused x)) (refused_two c text (claims_lasso (readable text)) f g fault h k)
decides_two c text (Ok a) (Err ends.ReadFault) one apart fault h k = absurd k
decides_two c text (Ok a) (Err ends.Memory) one apart fault h k = absurd k
decides_two c text (Err (ends.Refused f)) (Err ends.ReadFault) one apart fault h k = absurd k
decides_two c text (Err (ends.Refused f)) (Err ends.Memory) one apart fault h k = absurd k
decides_two c text (Err ends.ReadFault) b one apart fault h k = absurd h
decides_two c text (Err ends.Memory) b one apart fault h k = absurd h

-- no read failed
pub was_read : (c : Circuit) (text : List ℕ) (result : Given) → GivesSome (Err ends.Memory) (DecidesEntries c text) result → has_unread result ≡ false
was_read c text (Ok entries) h = refl
was_read c text (Err (ends.Refused fault)) h = refl
was_read c text (Err ends.ReadFault) (inl h) = absurd h
was_read c text (Err ends.ReadFault) (inr wrong) = absurd (cc wrong)
was_read c text (Err ends.Memory) h = refl

pub each_proved : (c : Circuit) (text : List ℕ) (result : Given) → GivesSome (Err ends.Memory) (DecidesEntries c text) result → IfOk result (AreProvedInTurn c [])
each_proved c text (Ok entries) (inl (n, certificate, (there, short, has, good), are)) = proved_in_turn c [] good.entries certificate.entries entries good.proved are
each_proved c text (Ok entries) (inr wrong) = absurd (cc wrong)
each_proved c text (Err end) h = tt

pub few : (c : Circuit) (text : List ℕ) (result : Given) → GivesSome (Err ends.Memory) (DecidesEntries c text) result → IfOk result (λ entries. length entries ≤ MAX_ENTRIES)
few c text (Ok entries) (inl (n, certificate, (there, short, has, good), are)) = (let count = as_many c certificate.entries entries are in omega (arith, count, good.few))
few c text (Ok entries) (inr wrong) = absurd (cc wrong)
few c text (Err end) h = tt
