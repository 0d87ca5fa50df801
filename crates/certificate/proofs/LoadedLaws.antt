-- What is held of an answer that was read and accepted.
use Rattle.std.proofs.Common.{◌≡◌, ℕ, Bool, true, inr, List, [], ◌∷◌, ◌++◌, length, take, Option, Some, Result, Ok, Err, refl, sym, ap, ◌∙◌, subst}
use Rattle.std.specs.Prelude.{codes, IfOk}
use Rattle.std.proofs.lemmas.List.{length-take-le}
use Rattle.aig_semantics.specs.declared.traces.Stimulus.{Stimulus}
use Rattle.aig_semantics.specs.declared.traces.Lasso.{Lasso as LassoOf}
use Rattle.aig_semantics.specs.Circuits.{Circuit}
use Rattle.aig_semantics.specs.Stimuli.{StandsFor}
use Rattle.certificate.specs.declared.ends.Accepted.{Accepted}
use Rattle.certificate.specs.declared.ends.Accepted.TheVariants as accepted
use Rattle.certificate.specs.declared.ends.AnswerEnd.{AnswerEnd}
use Rattle.certificate.specs.declared.ends.AnswerEnd.TheVariants as ends
use Rattle.certificate.specs.declared.loaded.Loaded.{Loaded}
use Rattle.certificate.specs.declared.loaded.Loaded.TheVariants.{Lasso, Holds}
use Rattle.certificate_texts.specs.declared.certificates.Certificate.{Certificate}
use Rattle.certificate_texts.specs.Writing.{property_line}
use Rattle.certificate.specs.Answers.{HasStimulus, Shows}
use Rattle.certificate.specs.Ends.{CheckSays, EndsWith, has_unread}
use Rattle.certificate.specs.Lassos.{lasso_of, IsLassoAtEnd}
use Rattle.certificate.specs.Lines.{Numbered, bare, kept_in, kept_readable}
use Rattle.certificate.specs.Reading.{State, Status, Dotted, read_lines}
use Rattle.certificate.specs.Loading.{IsHeldOf, accepted_of, accepted_in}
use Rattle.certificate.specs.Laws.{GoodIsTrue, HeldIsGood}
use Rattle.certificate_texts.specs.Taking.{certificate_at}
use Rattle.certificate.specs.Whole.{IsReadWhole, IsLoadedAs, GivesLoaded}
use Rattle.certificate.proofs.GoodRead.{all_readable}
use Rattle.certificate.proofs.Kept.{same_state, stimulus_is_read}
use Rattle.certificate.proofs.TakenBack.{good_back}

-- ---- a stimulus

-- the state has the stimulus, and with the lasso that was kept it is held
pub record OfStimulus (c : Circuit) (told : Option (List ℕ)) (n positions from : ℕ) (s : State) (kept : Option LassoOf) : Type 0 where
  pub stimulus : Stimulus
  pub dotted : s ≡ Dotted n stimulus
  pub lasso : LassoOf
  pub is : kept ≡ Some lasso
  pub held : IsHeldOf c told (Lasso n stimulus lasso)
  pub ends : accepted_of (Lasso n stimulus lasso) ≡ accepted.Lasso n positions from

pub of_stimulus : (c : Circuit) (told : Option (List ℕ)) (n positions from : ℕ) (lines : List (List ℕ)) (s : State) (kept : Option LassoOf)
    → IsReadWhole c told (accepted.Lasso n positions from) lines s kept → OfStimulus c told n positions from s kept
of_stimulus c told n positions from lines s kept (text, may, (there, short, stimulus, (others, (small, opens), (rows, spelled, values)), stands), is, read, at) =
    let left : bare (kept_in text) ≡ codes "1" ∷ property_line n ∷ (rows ++ codes "." ∷ []) = opens ∙ ap (λ ls. codes "1" ∷ property_line n ∷ ls) spelled in
    let ended : read_lines c Status (kept_readable text) ≡ Ok (Dotted n stimulus) =
    ap (λ (ls : List Numbered). read_lines c Status ls) (all_readable text short)
    ∙ stimulus_is_read c n stimulus (kept_in text) rows small there left values in
    let same : s ≡ Dotted n stimulus = same_state s (Dotted n stimulus) (read_lines c Status (kept_readable text)) read ended in
    let many : length (take positions stimulus.inputs) ≡ positions = length-take-le positions stimulus.inputs stands.has.inside in
    let has : HasStimulus n stimulus text = (others, (small, opens), (rows, spelled, values)) in
    record {
      stimulus = stimulus;
      dotted = same;
      lasso = lasso_of stimulus positions from;
      is = subst (λ (t : State). IsLassoAtEnd t (accepted.Lasso n positions from) kept) same at;
      held = (text, may, (there, short, has, subst (λ k. StandsFor c n stimulus k from) (sym many) stands, ap (λ k. lasso_of stimulus k from) (sym many)));
      ends = ap (λ k. accepted.Lasso n k from) many;
    }

-- ---- a certificate

pub record OfCertificate (c : Circuit) (told : Option (List ℕ)) (n entries : ℕ) (lines : List (List ℕ)) : Type 0 where
  pub certificate : Certificate
  pub rest : List (List ℕ)
  pub taken : certificate_at entries lines ≡ Some (certificate, rest)
  pub held : IsHeldOf c told (Holds n certificate)
  pub ends : accepted_of (Holds n certificate) ≡ accepted.Holds n entries

pub of_certificate : (c : Circuit) (told : Option (List ℕ)) (n entries : ℕ) (lines : List (List ℕ)) (s : State) (kept : Option LassoOf)
    → IsReadWhole c told (accepted.Holds n entries) lines s kept → OfCertificate c told n entries lines
of_certificate c told n entries lines s kept (text, may, (there, short, certificate, (small, opens), good, count), is, read, at) =
    let back = good_back c n certificate good in
    record {
      certificate = certificate;
      rest = back.0;
      taken = ap (λ k. certificate_at k lines) count ∙ ap (certificate_at (length certificate.entries)) (is ∙ opens) ∙ back.1;
      held = (text, may, (there, short, (small, opens), good));
      ends = ap (λ k. accepted.Holds n k) (sym count);
    }

-- ---- what is answered

pub given_as : (loaded : Loaded) (a : Accepted) (result : Result Loaded AnswerEnd) → accepted_of loaded ≡ a → GivesLoaded loaded result → IsLoadedAs (Ok a) result
given_as loaded a (Ok found) e g = ap accepted_of g ∙ e
given_as loaded a (Err end) e g = g

pub given_held : (c : Circuit) (told : Option (List ℕ)) (loaded : Loaded) (result : Result Loaded AnswerEnd) → IsHeldOf c told loaded → GivesLoaded loaded result → IfOk result (IsHeldOf c told)
given_held c told loaded (Ok found) h g = subst (IsHeldOf c told) (sym g) h
given_held c told loaded (Err end) h g = tt

-- where it was accepted so, these were read
as_found : (c : Circuit) (told : Option (List ℕ)) (end : Result Accepted AnswerEnd) (found a : Accepted) (lines : List (List ℕ)) (s : State) (kept : Option LassoOf)
    → end ≡ Ok found → found ≡ a → IfOk end (λ accepted. IsReadWhole c told accepted lines s kept) → IsReadWhole c told a lines s kept
as_found c told (Ok x) found a lines s kept e is h = let same : x ≡ a = cc (e, is) in subst (λ (y : Accepted). IsReadWhole c told y lines s kept) same h
as_found c told (Err end) found a lines s kept e is h = absurd (cc e)

as_loaded : (end : Result Accepted AnswerEnd) (found a : Accepted) (result : Result Loaded AnswerEnd) → end ≡ Ok found → found ≡ a → IsLoadedAs (Ok a) result → IsLoadedAs end result
as_loaded end found a result e is h =
    let same : Ok a ≡ end = cc (e, is) in subst (λ (x : Result Accepted AnswerEnd). IsLoadedAs x result) same h

pub lasso_there : (c : Circuit) (told : Option (List ℕ)) (end : Result Accepted AnswerEnd) (found : Accepted) (n positions from : ℕ) (lines : List (List ℕ)) (s : State) (kept : Option LassoOf)
    → end ≡ Ok found → found ≡ accepted.Lasso n positions from → IfOk end (λ accepted. IsReadWhole c told accepted lines s kept)
    → (t : Stimulus) × (lasso : LassoOf) × (s ≡ Dotted n t) × (kept ≡ Some lasso)
lasso_there c told end found n positions from lines s kept e is h =
    let of : OfStimulus c told n positions from s kept = of_stimulus c told n positions from lines s kept (as_found c told end found (accepted.Lasso n positions from) lines s kept e is h) in
    (of.stimulus, of.lasso, of.dotted, of.is)

pub lasso_ends : (c : Circuit) (told : Option (List ℕ)) (end : Result Accepted AnswerEnd) (found : Accepted) (n positions from : ℕ) (lines : List (List ℕ)) (s : State) (kept : Option LassoOf)
    (result : Result Loaded AnswerEnd) → end ≡ Ok found → found ≡ accepted.Lasso n positions from → IfOk end (λ accepted. IsReadWhole c told accepted lines s kept)
    → ((t : Stimulus) (lasso : LassoOf) → s ≡ Dotted n t → kept ≡ Some lasso → GivesLoaded (Lasso n t lasso) result) → IsLoadedAs end result
lasso_ends c told end found n positions from lines s kept result e is h gives =
    let of : OfStimulus c told n positions from s kept = of_stimulus c told n positions from lines s kept (as_found c told end found (accepted.Lasso n positions from) lines s kept e is h) in
    as_loaded end found (accepted.Lasso n positions from) result e is
    (given_as (Lasso n of.stimulus of.lasso) (accepted.Lasso n positions from) result of.ends (gives of.stimulus of.lasso of.dotted of.is))

pub lasso_held : (c : Circuit) (told : Option (List ℕ)) (end : Result Accepted AnswerEnd) (found : Accepted) (n positions from : ℕ) (lines : List (List ℕ)) (s : State) (kept : Option LassoOf)
    (result : Result Loaded AnswerEnd) → end ≡ Ok found → found ≡ accepted.Lasso n positions from
    → ((t : Stimulus) (lasso : LassoOf) → s ≡ Dotted n t → kept ≡ Some lasso → GivesLoaded (Lasso n t lasso) result)
    → IfOk end (λ accepted. IsReadWhole c told accepted lines s kept) → IfOk result (IsHeldOf c told)
lasso_held c told end found n positions from lines s kept result e is gives h =
    let of : OfStimulus c told n positions from s kept = of_stimulus c told n positions from lines s kept (as_found c told end found (accepted.Lasso n positions from) lines s kept e is h) in
    given_held c told (Lasso n of.stimulus of.lasso) result of.held (gives of.stimulus of.lasso of.dotted of.is)

pub certificate_there : (c : Circuit) (told : Option (List ℕ)) (end : Result Accepted AnswerEnd) (found : Accepted) (n entries : ℕ) (lines : List (List ℕ)) (s : State) (kept : Option LassoOf)
    → end ≡ Ok found → found ≡ accepted.Holds n entries → IfOk end (λ accepted. IsReadWhole c told accepted lines s kept)
    → (certificate : Certificate) × (rest : List (List ℕ)) × (certificate_at entries lines ≡ Some (certificate, rest))
certificate_there c told end found n entries lines s kept e is h =
    let of : OfCertificate c told n entries lines = of_certificate c told n entries lines s kept (as_found c told end found (accepted.Holds n entries) lines s kept e is h) in
    (of.certificate, of.rest, of.taken)

pub certificate_ends : (c : Circuit) (told : Option (List ℕ)) (end : Result Accepted AnswerEnd) (found : Accepted) (n entries : ℕ) (lines : List (List ℕ)) (s : State) (kept : Option LassoOf)
    (result : Result Loaded AnswerEnd) → end ≡ Ok found → found ≡ accepted.Holds n entries → IfOk end (λ accepted. IsReadWhole c told accepted lines s kept)
    → ((certificate : Certificate) (rest : List (List ℕ)) → certificate_at entries lines ≡ Some (certificate, rest) → GivesLoaded (Holds n certificate) result) → IsLoadedAs end result
certificate_ends c told end found n entries lines s kept result e is h gives =
    let of : OfCertificate c told n entries lines = of_certificate c told n entries lines s kept (as_found c told end found (accepted.Holds n entries) lines s kept e is h) in
    as_loaded end found (accepted.Holds n entries) result e is
    (given_as (Holds n of.certificate) (accepted.Holds n entries) result of.ends (gives of.certificate of.rest of.taken))

pub certificate_held : (c : Circuit) (told : Option (List ℕ)) (end : Result Accepted AnswerEnd) (found : Accepted) (n entries : ℕ) (lines : List (List ℕ)) (s : State) (kept : Option LassoOf)
    (result : Result Loaded AnswerEnd) → end ≡ Ok found → found ≡ accepted.Holds n entries
    → ((certificate : Certificate) (rest : List (List ℕ)) → certificate_at entries lines ≡ Some (certificate, rest) → GivesLoaded (Holds n certificate) result)
    → IfOk end (λ accepted. IsReadWhole c told accepted lines s kept) → IfOk result (IsHeldOf c told)
certificate_held c told end found n entries lines s kept result e is gives h =
    let of : OfCertificate c told n entries lines = of_certificate c told n entries lines s kept (as_found c told end found (accepted.Holds n entries) lines s kept e is h) in
    given_held c told (Holds n of.certificate) result of.held (gives of.certificate of.rest of.taken)

-- what is so where lines are kept
pub where_kept : (keeps : Bool) (result : Result Accepted AnswerEnd) (P : Accepted → Type 0) → keeps ≡ true → IfOk result (λ accepted. keeps ≡ true → P accepted) → IfOk result P
where_kept keeps (Ok accepted) P e h = h e
where_kept keeps (Err end) P e h = tt

pub says_loaded : (c : Circuit) (told : Option (List ℕ)) (end : Result Accepted AnswerEnd) (result : Result Loaded AnswerEnd) → IsLoadedAs end result → CheckSays c told end → CheckSays c told (accepted_in result)
says_loaded c told (Ok a) (Ok loaded) loads says = subst (λ (x : Accepted). CheckSays c told (Ok x)) (sym loads) says
says_loaded c told (Ok a) (Err end) loads says = inr (ap (λ (e : AnswerEnd). Err e) loads)
says_loaded c told (Err end) (Ok loaded) loads says = absurd loads
says_loaded c told (Err end) (Err other) loads says = subst (λ (e : AnswerEnd). CheckSays c told (Err e)) (sym loads) says

pub ends_loaded : (end : Result Accepted AnswerEnd) (result : Result Loaded AnswerEnd) (verdict : Result Accepted AnswerEnd) → IsLoadedAs end result → EndsWith end verdict → EndsWith (accepted_in result) verdict
ends_loaded (Ok a) (Ok loaded) verdict loads h = subst (λ (x : Accepted). EndsWith (Ok x) verdict) (sym loads) h
ends_loaded (Ok a) (Err end) verdict loads h = inr (ap (λ (e : AnswerEnd). Err e) loads)
ends_loaded (Err end) (Ok loaded) verdict loads h = absurd loads
ends_loaded (Err end) (Err other) verdict loads h = subst (λ (e : AnswerEnd). EndsWith (Err e) verdict) (sym loads) h

pub unread_loaded : (end : Result Accepted AnswerEnd) (result : Result Loaded AnswerEnd) → IsLoadedAs end result → has_unread result ≡ has_unread end
unread_loaded (Ok a) (Ok loaded) loads = refl
unread_loaded (Ok a) (Err end) loads = ap (λ (e : AnswerEnd). has_unread {T = Loaded} (Err e)) loads
unread_loaded (Err end) (Ok loaded) loads = absurd loads
unread_loaded (Err (ends.Refused fault)) (Err other) loads = ap (λ (e : AnswerEnd). has_unread {T = Loaded} (Err e)) loads
unread_loaded (Err ends.ReadFault) (Err other) loads = ap (λ (e : AnswerEnd). has_unread {T = Loaded} (Err e)) loads
unread_loaded (Err ends.Memory) (Err other) loads = ap (λ (e : AnswerEnd). has_unread {T = Loaded} (Err e)) loads

pub failed_loaded : (end : Result Accepted AnswerEnd) (result : Result Loaded AnswerEnd) → IsLoadedAs end result → result ≡ Err ends.ReadFault → end ≡ Err ends.ReadFault
failed_loaded (Ok a) (Ok loaded) loads e = absurd (cc e)
failed_loaded (Ok a) (Err end) loads e = absurd (cc (loads, e))
failed_loaded (Err end) (Ok loaded) loads e = absurd loads
failed_loaded (Err end) (Err other) loads e = cc (loads, e)

-- what is held is true
pub held_shows : (c : Circuit) (told : Option (List ℕ)) (result : Result Loaded AnswerEnd) → GoodIsTrue c → HeldIsGood c → IfOk result (IsHeldOf c told) → IfOk result (λ loaded. Shows c (accepted_of loaded))
held_shows c told (Ok loaded) true_of good (text, may, has) = true_of text (accepted_of loaded) (good text loaded has)
held_shows c told (Err end) true_of good h = tt
