-- The list of checked entries: it is sound, and what the loop keeps of it.
use Rattle.std.proofs.Common.{◌≡◌, ℕ, suc, ◌+◌, List, [], ◌∷◌, ◌++◌, map, length, refl, sym, ap, ◌∙◌, subst, arith, All}
use Rattle.std.proofs.lemmas.List.{append_assoc, append-nil, map-append}
use Rattle.std.proofs.lemmas.List.Elements.{All-cons, All-nil}
use Rattle.std.specs.Arc.{arc_value}
use Rattle.std.specs.declared.sync.Arc.{Arc}
use Rattle.aig_semantics.specs.Circuits.{Circuit}
use Rattle.fair_semantics.specs.Entries.{Entry}
use Rattle.entry.specs.declared.entries.Entry.{Entry as WithProofs}
use Rattle.entry.specs.declared.origins.Origin.TheVariants.{Given}
use Rattle.entry.specs.Entries.{said}
use Rattle.entry.specs.Proved.{IsProved}
use Rattle.entry.specs.Laws.{IsGoodList, ProvedIsValid, GoodListsGrow}
use Rattle.entry.specs.CheckedEntries.{CheckedEntry, checked_behind, viewed}
use Rattle.wall_store.specs.Boards.{plain, IsSound, IsSoundList}
use Rattle.given_entries.specs.Given.{AreProvedInTurn, list_behind, list_of}

-- ---- soundness

plain_more : (front : List CheckedEntry) (x : CheckedEntry) → plain (front ++ x ∷ []) ≡ plain front ++ x.entry ∷ []
plain_more front x = map-append (λ (y : CheckedEntry). y.entry) front (x ∷ [])

nothing : (before after : List CheckedEntry) (e : CheckedEntry) → [] ≡ before ++ e ∷ after → ⊥
nothing [] after e wrong = cc wrong
nothing (x ∷ before) after e wrong = cc wrong

sound_one : (c : Circuit) (front : List CheckedEntry) (x : WithProofs) → ProvedIsValid c → IsGoodList c (plain front) → IsProved c (plain front) (said x) x.proofs
    → IsSound c front (checked_behind c (plain front) (said x) x.proofs Given)
sound_one c front x valid good proved = record {
  circuit = refl;
  holds = record { valid = valid (plain front) (said x) x.proofs good proved; proved = proved; apart = λ after. tt };
}

sound_from : (c : Circuit) (front : List CheckedEntry) (entries : List WithProofs) → ProvedIsValid c → GoodListsGrow c → IsGoodList c (plain front)
    → AreProvedInTurn c (plain front) entries → (before after : List CheckedEntry) (e : CheckedEntry) → list_behind c (plain front) entries ≡ before ++ e ∷ after
    → IsSound c (front ++ before) e
sound_from c front [] valid grow good proved before after e is = absurd (nothing before after e is)
sound_from c front (x ∷ entries) valid grow good (first, others) [] after e is =
    let here : checked_behind c (plain front) (said x) x.proofs Given ≡ e = cc is in
    subst (λ (f : List CheckedEntry). IsSound c f e) (sym (append-nil front)) (subst (λ (y : CheckedEntry). IsSound c front y) here (sound_one c front x valid good first))
sound_from c front (x ∷ entries) valid grow good (first, others) (b ∷ before) after e is =
    let y : CheckedEntry = checked_behind c (plain front) (said x) x.proofs Given in
    let here : y ≡ b = cc is in
    let tail : list_behind c (plain front ++ said x ∷ []) entries ≡ before ++ e ∷ after = cc is in
    let longer : plain front ++ said x ∷ [] ≡ plain (front ++ y ∷ []) = sym (plain_more front y) in
    let further = sound_from c (front ++ y ∷ []) entries valid grow
    (subst (IsGoodList c) longer (grow.more (plain front) (said x) x.proofs good first))
    (subst (λ (p : List Entry). AreProvedInTurn c p entries) longer others) before after e
    (subst (λ (p : List Entry). list_behind c p entries ≡ before ++ e ∷ after) longer tail) in
    subst (λ (f : List CheckedEntry). IsSound c f e) (append_assoc front (y ∷ []) before ∙ ap (λ (z : CheckedEntry). front ++ z ∷ before) here) further

pub sound : (c : Circuit) (entries : List WithProofs) (list : List CheckedEntry) → ProvedIsValid c → GoodListsGrow c → AreProvedInTurn c [] entries → list ≡ list_of c entries
    → IsSoundList c list
sound c entries list valid grow proved is =
    subst (IsSoundList c) (sym is) (λ before after e same. sound_from c [] entries valid grow grow.none proved before after e same)

given_from : (c : Circuit) (before : List Entry) (entries : List WithProofs) → All (λ (e : CheckedEntry). e.origin ≡ Given) (list_behind c before entries)
given_from c before [] = All-nil _
given_from c before (x ∷ entries) = All-cons (λ (e : CheckedEntry). e.origin ≡ Given) _ _ refl (given_from c (before ++ said x ∷ []) entries)

pub all_given : (c : Circuit) (entries : List WithProofs) (list : List CheckedEntry) → list ≡ list_of c entries → All (λ (e : CheckedEntry). e.origin ≡ Given) list
all_given c entries list is = subst (All (λ (e : CheckedEntry). e.origin ≡ Given)) (sym is) (given_from c [] entries)

many_from : (c : Circuit) (before : List Entry) (entries : List WithProofs) → length (list_behind c before entries) ≡ length entries
many_from c before [] = refl
many_from c before (x ∷ entries) = ap suc (many_from c (before ++ said x ∷ []) entries)

pub as_many_listed : (c : Circuit) (entries : List WithProofs) (list : List CheckedEntry) → list ≡ list_of c entries → length list ≡ length entries
as_many_listed c entries list is = ap length is ∙ many_from c [] entries

-- ---- going over the entries

-- the entries of a shared list are those of what is shared
pub viewed_plain : {Z : Type 0} (list : List (Arc CheckedEntry Z)) → viewed list ≡ plain (map (λ s. arc_value {X = CheckedEntry} s) list)
viewed_plain [] = refl
viewed_plain (s ∷ list) = ap (λ (es : List Entry). (arc_value {X = CheckedEntry} s).entry ∷ es) (viewed_plain list)

-- What is left of the entries, with the list so far, which is good and behind which these are proved: the list goes on to
-- that of all. There are so many left.
pub record Left (c : Circuit) (all rest : List WithProofs) (len : ℕ) (list : List CheckedEntry) : Type 0 where
  pub good : IsGoodList c (plain list)
  pub proved : AreProvedInTurn c (plain list) rest
  pub whole : list ++ list_behind c (plain list) rest ≡ list_of c all
  pub count : len ≡ length rest

pub left_first : (c : Circuit) (all rest : List WithProofs) (len : ℕ) (list : List CheckedEntry) → GoodListsGrow c → AreProvedInTurn c [] all → rest ≡ all → len ≡ length all
    → list ≡ [] → Left c all rest len list
left_first c all rest len list grow proved is count empty =
    subst (λ (l : List CheckedEntry). Left c all rest len l) (sym empty) (record {
      good = grow.none;
      proved = subst (AreProvedInTurn c []) (sym is) proved;
      whole = ap (list_behind c []) is;
      count = count ∙ sym (ap length is);
    })

-- what is asked of the next one
pub left_good : {Z : Type 0} (c : Circuit) (all rest : List WithProofs) (len : ℕ) (list : List (Arc CheckedEntry Z))
    → Left c all rest len (map (λ s. arc_value {X = CheckedEntry} s) list) → IsGoodList c (viewed list)
left_good c all rest len list l = subst (IsGoodList c) (sym (viewed_plain list)) l.good

pub left_proved : {Z : Type 0} (c : Circuit) (all rest more : List WithProofs) (x : WithProofs) (len : ℕ) (list : List (Arc CheckedEntry Z))
    → Left c all rest len (map (λ s. arc_value {X = CheckedEntry} s) list) → rest ≡ x ∷ more → IsProved c (viewed list) (said x) x.proofs
left_proved c all rest more x len list l is =
    subst (λ (before : List Entry). IsProved c before (said x) x.proofs) (sym (viewed_plain list))
    (subst (AreProvedInTurn c (plain (map (λ s. arc_value {X = CheckedEntry} s) list))) is l.proved).0

on_from : (c : Circuit) (all more : List WithProofs) (x : WithProofs) (fewer : ℕ) (list : List CheckedEntry) → GoodListsGrow c → IsGoodList c (plain list)
    → AreProvedInTurn c (plain list) (x ∷ more) → list ++ list_behind c (plain list) (x ∷ more) ≡ list_of c all → fewer ≡ length more
    → Left c all more fewer (list ++ checked_behind c (plain list) (said x) x.proofs Given ∷ [])
on_from c all more x fewer list grow good proved whole counted =
    let y : CheckedEntry = checked_behind c (plain list) (said x) x.proofs Given in
    let longer : plain list ++ said x ∷ [] ≡ plain (list ++ y ∷ []) = sym (plain_more list y) in
    record {
      good = subst (IsGoodList c) longer (grow.more (plain list) (said x) x.proofs good proved.0);
      proved = subst (λ (p : List Entry). AreProvedInTurn c p more) longer proved.1;
      whole = append_assoc list (y ∷ []) (list_behind c (plain (list ++ y ∷ [])) more)
          ∙ ap (λ (p : List Entry). list ++ y ∷ list_behind c p more) (sym longer) ∙ whole;
      count = counted;
    }

pub left_on : {Z : Type 0} (c : Circuit) (all rest more : List WithProofs) (x : WithProofs) (len fewer : ℕ) (list : List (Arc CheckedEntry Z)) (new : List CheckedEntry) → GoodListsGrow c
    → Left c all rest len (map (λ s. arc_value {X = CheckedEntry} s) list) → rest ≡ x ∷ more → fewer + 1 ≡ len
    → new ≡ map (λ s. arc_value {X = CheckedEntry} s) list ++ checked_behind c (viewed list) (said x) x.proofs Given ∷ [] → Left c all more fewer new
left_on c all rest more x len fewer list new grow l is counted same =
    let v : List CheckedEntry = map (λ s. arc_value {X = CheckedEntry} s) list in
    let next : new ≡ v ++ checked_behind c (plain v) (said x) x.proofs Given ∷ [] =
    same ∙ ap (λ (p : List Entry). v ++ checked_behind c p (said x) x.proofs Given ∷ []) (viewed_plain list) in
    let some : len ≡ suc (length more) = l.count ∙ ap length is in
    subst (λ (n : List CheckedEntry). Left c all more fewer n) (sym next)
    (on_from c all more x fewer v grow l.good (subst (AreProvedInTurn c (plain v)) is l.proved) (subst (λ (es : List WithProofs). v ++ list_behind c (plain v) es ≡ list_of c all) is l.whole)
    (omega (arith, some, counted)))

none_left : (rest : List WithProofs) → length rest ≡ 0 → rest ≡ []
none_left [] e = refl
none_left (x ∷ rest) e = absurd (omega (arith, e))

pub left_done : (c : Circuit) (all rest : List WithProofs) (len : ℕ) (list : List CheckedEntry) → Left c all rest len list → len ≡ 0 → list ≡ list_of c all
left_done c all rest len list l none =
    let empty : rest ≡ [] = none_left rest (sym l.count ∙ none) in
    sym (append-nil list) ∙ subst (λ (es : List WithProofs). list ++ list_behind c (plain list) es ≡ list_of c all) empty l.whole
