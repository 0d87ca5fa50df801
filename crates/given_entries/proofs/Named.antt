-- The list where an answer is named, from what is loaded of it.
use Rattle.std.proofs.Common.{◌≡◌, ◌⊎◌, inl, inr, ℕ, ◌≤◌, List, length, false, refl, sym, ap, ◌∙◌, subst, arith, Some, Ok, Err}
use Rattle.std.specs.Prelude.{Option, Result, Vec, IfOk, IfErr}
use Rattle.std.specs.declared.sync.Arc.{Arc}
use Rattle.aig_semantics.specs.Circuits.{Circuit}
use Rattle.edge.specs.Told.{MayBe}
use Rattle.entry.specs.declared.entries.Entry.{Entry as WithProofs}
use Rattle.entry.specs.CheckedEntries.{CheckedEntry}
use Rattle.certificate.specs.declared.limits.TheConstants.{MAX_ENTRIES}
use Rattle.sheet_answers.specs.declared.ends.JudgeEnd.{JudgeEnd}
use Rattle.sheet_answers.specs.Ends.{has_unread, read_failed, refused_memory, IsUnended}
use Rattle.wall_store.specs.Boards.{most_entries}
use Rattle.given_entries.specs.Given.{list_of}
use Rattle.given_entries.specs.Listing.{Lists, DecidesList, ListingSays, ListingEnds}
use Rattle.given_entries.specs.Beginning.{IsClaimed, BeginsWith, HasNoList, IsRefusedWith, GivesList, shared_list}

pub refused_named : {T : Type 0} (told : Option (List ℕ)) (c : Circuit) (result : Result T JudgeEnd)
    → ((text : List ℕ) (end : JudgeEnd) → told ≡ Some text → DecidesList c text (Err end) → IsRefusedWith end result)
    → (claimed : Option (List ℕ)) (end : JudgeEnd) → IsClaimed (Some told) claimed → HasNoList c claimed end → IsRefusedWith end result
refused_named told c result refused claimed end (text, e, is) none = refused text end e (subst (λ (k : Option (List ℕ)). HasNoList c k end) is none)

pub accepted_named : {Z A : Type 0} (told : Option (List ℕ)) (c : Circuit) (result : Result (Vec (Arc CheckedEntry Z) A) JudgeEnd)
    → ((text : List ℕ) (list : List CheckedEntry) → told ≡ Some text → BeginsWith c (Some text) list → GivesList list result)
    → (claimed : Option (List ℕ)) (list : List CheckedEntry) → IsClaimed (Some told) claimed → BeginsWith c claimed list → GivesList list result
accepted_named told c result accepted claimed list (text, e, is) begins = accepted text list e (subst (λ (k : Option (List ℕ)). BeginsWith c k list) is begins)

-- ---- from the entries that are loaded, or the end of the loading

abbrev Given : Type 0
Given = Result (List WithProofs) JudgeEnd

list_said : (c : Circuit) (told : Option (List ℕ)) (entries : List WithProofs) (list : List CheckedEntry) → ListingSays c told (Ok entries) → list ≡ list_of c entries
    → (text : List ℕ) × MayBe told text × BeginsWith c (Some text) list
list_said c told entries list (inl (inl wrong)) is = absurd (cc wrong)
list_said c told entries list (inl (inr (text, may, has))) is = (text, may, (entries, has, is))
list_said c told entries list (inr wrong) is = absurd (cc wrong)

fault_said : (c : Circuit) (told : Option (List ℕ)) (end : JudgeEnd) → ListingSays c told (Err end)
    → IsUnended end ⊎ ((text : List ℕ) × MayBe told text × DecidesList c text (Err end))
fault_said c told end (inl (inl unread)) = let same : end ≡ read_failed = cc unread in inl (inl same)
fault_said c told end (inl (inr none)) = inr none
fault_said c told end (inr memory) = let same : end ≡ refused_memory = cc memory in inl (inr same)

never_refused : (entries : List WithProofs) (refusal : JudgeEnd) → ListingEnds (Ok entries) (Err refusal) → ⊥
never_refused entries refusal (inl (inl wrong)) = cc wrong
never_refused entries refusal (inl (inr wrong)) = cc wrong
never_refused entries refusal (inr wrong) = cc wrong

refused_said : (end refusal : JudgeEnd) → ListingEnds (Err end) (Err refusal) → (end ≡ refusal) ⊎ IsUnended end
refused_said end refusal (inl (inl is)) = inl (cc is)
refused_said end refusal (inl (inr is)) = inr (inl (cc is))
refused_said end refusal (inr is) = inr (inr (cc is))

same_list : (c : Circuit) (entries others : List WithProofs) (made list : List CheckedEntry) → ListingEnds (Ok entries) (Ok others) → made ≡ list_of c entries
    → list ≡ list_of c others → made ≡ list
same_list c entries others made list (inl (inl is)) first second = let same : entries ≡ others = cc is in first ∙ ap (list_of c) same ∙ sym second
same_list c entries others made list (inl (inr wrong)) first second = absurd (cc wrong)
same_list c entries others made list (inr wrong) first second = absurd (cc wrong)

unended_said : (end : JudgeEnd) (others : List WithProofs) → ListingEnds (Err end) (Ok others) → IsUnended end
unended_said end others (inl (inl wrong)) = absurd (cc wrong)
unended_said end others (inl (inr is)) = inl (cc is)
unended_said end others (inr is) = inr (cc is)

-- the same of a circuit that is lent
abbrev Exactly : Circuit → Option (List ℕ) → Given → Type 0
Exactly c told result = (text : List ℕ) (verdict : Given) → told ≡ Some text → DecidesList c text verdict → ListingEnds result verdict

pub list_made : {Z A : Type 0} (k c : Circuit) (told : Option (List ℕ)) (entries : List WithProofs) (result : Result (Vec (Arc CheckedEntry Z) A) JudgeEnd) → k ≡ c
    → ListingSays k told (Ok entries) → IfOk result (λ list. shared_list list.items ≡ list_of c entries)
    → IfOk result (λ list. (text : List ℕ) × MayBe told text × BeginsWith c (Some text) (shared_list list.items))
list_made k c told entries (Ok list) same says is =
    list_said c told entries (shared_list list.items) (subst (λ (x : Circuit). ListingSays x told (Ok entries)) same says) is
list_made k c told entries (Err end) same says is = tt

pub gives_list : {Z A : Type 0} (k c : Circuit) (told : Option (List ℕ)) (entries : List WithProofs) (result : Result (Vec (Arc CheckedEntry Z) A) JudgeEnd) → k ≡ c
    → Exactly k told (Ok entries) → IfOk result (λ list. shared_list list.items ≡ list_of c entries) → IfErr result (λ end. end ≡ refused_memory)
    → (text : List ℕ) (list : List CheckedEntry) → told ≡ Some text → BeginsWith c (Some text) list → GivesList list result
gives_list k c told entries (Ok made) same exactly is ended text list e (others, has, begins) =
    same_list c entries others (shared_list made.items) list (exactly text (Ok others) e (subst (λ (x : Circuit). Lists x text others) (sym same) has)) is begins
gives_list k c told entries (Err end) same exactly is ended text list e begins = inr ended

pub has_list : (k c : Circuit) (told : Option (List ℕ)) (entries : List WithProofs) → k ≡ c → Exactly k told (Ok entries)
    → (text : List ℕ) (refusal : JudgeEnd) → told ≡ Some text → DecidesList c text (Err refusal) → ⊥
has_list k c told entries same exactly text refusal e none =
    never_refused entries refusal (exactly text (Err refusal) e (subst (λ (x : Circuit). DecidesList x text (Err refusal)) (sym same) none))

pub fault_told : (k c : Circuit) (told : Option (List ℕ)) (end : JudgeEnd) → k ≡ c → ListingSays k told (Err end)
    → IsUnended end ⊎ ((text : List ℕ) × MayBe told text × DecidesList c text (Err end))
fault_told k c told end same says = fault_said c told end (subst (λ (x : Circuit). ListingSays x told (Err end)) same says)

pub refused_told : (k c : Circuit) (told : Option (List ℕ)) (end : JudgeEnd) → k ≡ c → Exactly k told (Err end)
    → (text : List ℕ) (refusal : JudgeEnd) → told ≡ Some text → DecidesList c text (Err refusal) → (end ≡ refusal) ⊎ IsUnended end
refused_told k c told end same exactly text refusal e none =
    refused_said end refusal (exactly text (Err refusal) e (subst (λ (x : Circuit). DecidesList x text (Err refusal)) (sym same) none))

pub accepted_told : (k c : Circuit) (told : Option (List ℕ)) (end : JudgeEnd) → k ≡ c → Exactly k told (Err end)
    → (text : List ℕ) (list : List CheckedEntry) → told ≡ Some text → BeginsWith c (Some text) list → IsUnended end
accepted_told k c told end same exactly text list e (others, has, begins) =
    unended_said end others (exactly text (Ok others) e (subst (λ (x : Circuit). Lists x text others) (sym same) has))

-- a list that was not made for want of memory

pub only_memory : {T : Type 0} (result : Result T JudgeEnd) (P : JudgeEnd → Type 0) → IfErr result (λ e. e ≡ refused_memory) → IfErr result (λ end. IsUnended end ⊎ P end)
only_memory (Ok made) P h = tt
only_memory (Err end) P h = inl (inr h)

pub never_failed : {T : Type 0} (result : Result T JudgeEnd) → IfErr result (λ e. e ≡ refused_memory) → result ≡ Err read_failed → ⊥
never_failed (Ok made) h e = cc e
never_failed (Err end) h e = let same : end ≡ read_failed = cc e in let wrong : refused_memory ≡ read_failed = sym h ∙ same in cc wrong

pub none_unread : {T : Type 0} (result : Result T JudgeEnd) → IfErr result (λ e. e ≡ refused_memory) → has_unread result ≡ false
none_unread (Ok made) h = refl
none_unread {T = T} (Err end) h = ap (λ (e : JudgeEnd). has_unread {T = T} (Err e)) h

pub few_made : {Z A : Type 0} (entries : List WithProofs) (result : Result (Vec (Arc CheckedEntry Z) A) JudgeEnd) → length entries ≤ MAX_ENTRIES
    → IfOk result (λ list. length list.items ≡ length entries) → IfOk result (λ list. length list.items ≤ most_entries)
few_made entries (Ok list) few count = omega (arith, few, count)
few_made entries (Err end) few count = tt
