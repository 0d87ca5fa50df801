-- The laws of trimming, of all answers.
use Rattle.std.proofs.Common.{◌≡◌, ◌≤◌, ◌<◌, ◌^◌, ℕ, List, [], length, refl, sym, ap, ◌∙◌, subst}
use Rattle.aig_semantics.specs.declared.traces.Stimulus.{Stimulus}
use Rattle.aig_semantics.specs.declared.traces.Lasso.{Lasso as LassoOf}
use Rattle.aig_semantics.specs.Circuits.{Circuit}
use Rattle.fair_semantics.specs.Entries.{Entry}
use Rattle.answer_lines.specs.Left.{most_bytes}
use Rattle.lasso_join.specs.Prefixes.{stimulus_of}
use Rattle.certificate_lines.specs.declared.words.Version.{Version}
use Rattle.certificate_lines.specs.declared.words.Version.TheVariants.{Two}
use Rattle.certificate.specs.declared.loaded.Loaded.{Loaded}
use Rattle.certificate.specs.declared.loaded.Loaded.TheVariants.{Lasso, Holds}
use Rattle.certificate_texts.specs.declared.certificates.Certificate.{Certificate}
use Rattle.certificate.specs.Certificates.{AreProvedBehind, IsGoodCertificate}
use Rattle.certificate_texts.specs.Writing.{in_version_two}
use Rattle.certificate.specs.Loading.{HoldsAnswer, IsHeld, printed_text}
use Rattle.certificate.proofs.Printed.{good_of_two, has_certificate}
use Rattle.cert_tools.specs.Trimmed.{IsTrimmedCertificate, IsTrimmed}
use Rattle.cert_tools.specs.Laws.{TrimmedIsGood, TrimmedStays}
use Rattle.cert_tools.proofs.GoodTrimmed.{trimmed_is_good}
use Rattle.cert_tools.proofs.TrimmedAgain.{proved_one, trimmed_is_itself}
use Rattle.cert_tools.proofs.TrimmedLassos.{trimmed_lasso}

-- the entries of a good certificate are the ones that it was trimmed by
by_its_entries : (c : Circuit) (n : ℕ) (whole trimmed : Certificate) (entries : List Entry) (good : IsGoodCertificate c n whole) → AreProvedBehind c [] whole.entries entries
    → IsTrimmedCertificate c n entries whole trimmed → IsTrimmedCertificate c n good.entries whole trimmed
by_its_entries c n whole trimmed entries good proved h =
    subst (λ es. IsTrimmedCertificate c n es whole trimmed) (proved_one c [] whole.entries entries good.entries proved good.proved) h

version_is : (certificate : Certificate) → certificate.version ≡ Two → in_version_two certificate ≡ certificate
version_is certificate is =
    ap (λ (v : Version). record { version = v; entries = certificate.entries; uses = certificate.uses; proof = certificate.proof }) (sym is)

holds_trimmed : (c : Circuit) (n : ℕ) (trimmed : Certificate) → trimmed.version ≡ Two → IsGoodCertificate c n trimmed → n < length c.justice → n < 2 ^ 63
    → length (printed_text (Holds n trimmed)) ≤ most_bytes → HoldsAnswer c (printed_text (Holds n trimmed)) (Holds n trimmed)
holds_trimmed c n trimmed two good there small limit =
    subst (λ (x : Certificate). HoldsAnswer c (printed_text (Holds n trimmed)) (Holds n x)) (version_is trimmed two)
    (there, limit, has_certificate c n trimmed (good_of_two c n trimmed good) small, good_of_two c n trimmed good)

pub trimmed_good : (c : Circuit) → TrimmedIsGood c
trimmed_good c text (Lasso n stimulus lasso) (Lasso m kept other) held (number, same, is) limit =
    subst (λ (l : Loaded). HoldsAnswer c (printed_text l) l) all
    (trimmed_lasso c text n stimulus lasso held (subst (λ (l : Loaded). length (printed_text l) ≤ most_bytes) (sym all) limit))
  where
    all : ◌≡◌ {A = Loaded} (Lasso n (stimulus_of lasso) lasso) (Lasso m kept other)
    all = cc (number, same, is)
trimmed_good c text (Holds n whole) (Holds m trimmed) (there, short, (small, opens), good) (number, entries, proved, h) limit =
    subst (λ k. HoldsAnswer c (printed_text (Holds k trimmed)) (Holds k trimmed)) (sym number)
    (holds_trimmed c n trimmed h.version (trimmed_is_good c n whole trimmed good (by_its_entries c n whole trimmed entries good proved h)) there small
    (subst (λ k. length (printed_text (Holds k trimmed)) ≤ most_bytes) number limit))
trimmed_good c text (Lasso n stimulus lasso) (Holds m trimmed) held never limit = absurd never
trimmed_good c text (Holds n whole) (Lasso m kept other) held never limit = absurd never

pub trimmed_stays : (c : Circuit) → TrimmedStays c
trimmed_stays c text (Lasso n stimulus lasso) (Lasso m kept other) held (number, same, is) =
    (refl, refl, is ∙ ap stimulus_of (sym same))
trimmed_stays c text (Holds n whole) (Holds m trimmed) (there, short, (small, opens), good) (number, entries, proved, h) =
    let by : IsTrimmedCertificate c n good.entries whole trimmed = by_its_entries c n whole trimmed entries good proved h in
    let again : IsGoodCertificate c n trimmed = trimmed_is_good c n whole trimmed good by in
    (refl, again.entries, again.proved, subst (λ k. IsTrimmedCertificate c k again.entries trimmed trimmed) (sym number) (trimmed_is_itself c n whole trimmed good by again.entries again.proved))
trimmed_stays c text (Lasso n stimulus lasso) (Holds m trimmed) held never = absurd never
trimmed_stays c text (Holds n whole) (Lasso m kept other) held never = absurd never

-- ---- by the cases of an answer

-- the certificate of an answer that is held is good
pub good_of : (c : Circuit) (loaded : Loaded) (n : ℕ) (certificate : Certificate) → IsHeld c loaded → loaded ≡ Holds n certificate → IsGoodCertificate c n certificate
good_of c loaded n certificate (text, has) is = from (subst (HoldsAnswer c text) is has)
  where
    from : HoldsAnswer c text (Holds n certificate) → IsGoodCertificate c n certificate
    from (there, short, opens, good) = good

pub lasso_trimmed : (c : Circuit) (loaded trimmed : Loaded) (n : ℕ) (stimulus : Stimulus) (lasso : LassoOf) → loaded ≡ Lasso n stimulus lasso → trimmed ≡ Lasso n (stimulus_of lasso) lasso → IsTrimmed c loaded trimmed
lasso_trimmed c loaded trimmed n stimulus lasso is made = subst (λ (l : Loaded). IsTrimmed c l trimmed) (sym is) (subst (IsTrimmed c (Lasso n stimulus lasso)) (sym made) (refl, refl, refl))

pub holds_is : (c : Circuit) (loaded trimmed : Loaded) (n : ℕ) (certificate : Certificate) → loaded ≡ Holds n certificate → IsTrimmed c (Holds n certificate) trimmed → IsTrimmed c loaded trimmed
holds_is c loaded trimmed n certificate is h = subst (λ (l : Loaded). IsTrimmed c l trimmed) (sym is) h
