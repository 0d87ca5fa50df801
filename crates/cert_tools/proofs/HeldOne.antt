-- A text has one answer.
use Rattle.std.proofs.Common.{◌≡◌, ℕ, List, ◌∷◌, length, sym, ap, ◌∙◌, Option, Some, None, Ok}
use Rattle.std.specs.Prelude.{codes}
use Rattle.aig_semantics.specs.declared.traces.Stimulus.{Stimulus}
use Rattle.aig_semantics.specs.declared.traces.Lasso.{Lasso as LassoOf}
use Rattle.aig_semantics.specs.Circuits.{Circuit}
use Rattle.certificate.specs.declared.ends.Accepted.TheVariants as accepted
use Rattle.certificate.specs.declared.loaded.Loaded.{Loaded}
use Rattle.certificate.specs.declared.loaded.Loaded.TheVariants.{Lasso, Holds}
use Rattle.certificate_texts.specs.declared.certificates.Certificate.{Certificate}
use Rattle.certificate.specs.Lines.{kept_in, bare}
use Rattle.certificate_texts.specs.Writing.{property_line}
use Rattle.certificate.specs.Lassos.{lasso_of}
use Rattle.certificate.specs.Loading.{HoldsAnswer, accepted_of}
use Rattle.certificate.specs.Reading.{Status, Dotted, Stepped, read_lines}
use Rattle.certificate_texts.specs.Taking.{certificate_at}
use Rattle.certificate.proofs.Kept.{stimulus_is_read}
use Rattle.certificate.proofs.OneEnd.{one_is_good}
use Rattle.certificate.proofs.Printed.{held_is_good}
use Rattle.certificate.proofs.TakenBack.{good_back}
use Rattle.cert_tools.specs.Laws.{OneHeld}

same_dotted : (n m : ℕ) (s t : Stimulus) → ◌≡◌ {A = Stepped} (Ok (Dotted n s)) (Ok (Dotted m t)) → s ≡ t
same_dotted n m s t e = cc e

abbrev taken_or : Certificate → Option (Certificate × List (List ℕ)) → Certificate
taken_or other None = other
taken_or other (Some (certificate, rest)) = certificate

same_taken : (a b : Certificate) (rest more : List (List ℕ)) → ◌≡◌ {A = Option (Certificate × List (List ℕ))} (Some (a, rest)) (Some (b, more)) → a ≡ b
same_taken a b rest more e = ap (taken_or a) e

-- the stimulus is that of the text's lines
dotted : (c : Circuit) (text : List ℕ) (n : ℕ) (s : Stimulus) (lasso : LassoOf) → HoldsAnswer c text (Lasso n s lasso) → read_lines c Status (kept_in text) ≡ Ok (Dotted n s)
dotted c text n s lasso (there, short, (others, (small, opens), (rows, spelled, values)), stands, is) =
    stimulus_is_read c n s (kept_in text) rows small there (opens ∙ ap (λ ls. codes "1" ∷ property_line n ∷ ls) spelled) values

lasso_is : (c : Circuit) (text : List ℕ) (n : ℕ) (s : Stimulus) (lasso : LassoOf) → HoldsAnswer c text (Lasso n s lasso) → lasso ≡ lasso_of s (length lasso.inputs) lasso.from
lasso_is c text n s lasso (there, short, has, stands, is) = is

-- so is the certificate
taken : (c : Circuit) (text : List ℕ) (n : ℕ) (certificate : Certificate) → HoldsAnswer c text (Holds n certificate)
    → (rest : List (List ℕ)) × (certificate_at (length certificate.entries) (bare (kept_in text)) ≡ Some (certificate, rest))
taken c text n certificate (there, short, (small, opens), good) =
    let back = good_back c n certificate good in (back.0, ap (certificate_at (length certificate.entries)) opens ∙ back.1)

one_accepted : (c : Circuit) (text : List ℕ) (a b : Loaded) → HoldsAnswer c text a → HoldsAnswer c text b → accepted_of a ≡ accepted_of b
one_accepted c text a b h k = one_is_good c text (accepted_of a) (accepted_of b) (held_is_good c text a h) (held_is_good c text b k)

lasso_parts : (n m k l from place : ℕ) → accepted.Lasso n k from ≡ accepted.Lasso m l place → (n ≡ m) × (k ≡ l) × (from ≡ place)
lasso_parts n m k l from place e = (cc e, cc e, cc e)

holds_parts : (n m k l : ℕ) → accepted.Holds n k ≡ accepted.Holds m l → (n ≡ m) × (k ≡ l)
holds_parts n m k l e = (cc e, cc e)

never : (n m k l from : ℕ) → accepted.Lasso n k from ≡ accepted.Holds m l → ⊥
never n m k l from e = cc e

pub one_held : (c : Circuit) → OneHeld c
one_held c text (Lasso n s a) (Lasso m t b) h k =
    let (number, count, place) = lasso_parts n m (length a.inputs) (length b.inputs) a.from b.from (one_accepted c text (Lasso n s a) (Lasso m t b) h k) in
    let stimulus : s ≡ t = same_dotted n m s t (sym (dotted c text n s a h) ∙ dotted c text m t b k) in
    let lasso : a ≡ b = lasso_is c text n s a h ∙ (λ i. lasso_of (stimulus i) (count i) (place i)) ∙ sym (lasso_is c text m t b k) in
    λ i. Lasso (number i) (stimulus i) (lasso i)
one_held c text (Holds n a) (Holds m b) h k =
    let (number, count) = holds_parts n m (length a.entries) (length b.entries) (one_accepted c text (Holds n a) (Holds m b) h k) in
    let (rest, first) = taken c text n a h in
    let (more, second) = taken c text m b k in
    let same : a ≡ b = same_taken a b rest more (sym first ∙ ap (λ size. certificate_at size (bare (kept_in text))) count ∙ second) in
    λ i. Holds (number i) (same i)
one_held c text (Lasso n s a) (Holds m b) h k = absurd (never n m (length a.inputs) (length b.entries) a.from (one_accepted c text (Lasso n s a) (Holds m b) h k))
one_held c text (Holds n a) (Lasso m t b) h k = absurd (never m n (length b.inputs) (length a.entries) b.from (sym (one_accepted c text (Holds n a) (Lasso m t b) h k)))
