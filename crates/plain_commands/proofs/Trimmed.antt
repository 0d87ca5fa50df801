-- What `trim` prints is the answer, trimmed.
use Rattle.std.proofs.Common.{◌≡◌, ◌≤◌, ℕ, List, length, refl, sym, ap, ◌∙◌, subst, Ok, Err}
use Rattle.std.specs.Prelude.{Result, IfOk}
use Rattle.aig_semantics.specs.Circuits.{Circuit}
use Rattle.answer_lines.specs.Left.{most_bytes}
use Rattle.certificate.specs.declared.loaded.Loaded.{Loaded}
use Rattle.certificate.specs.Loading.{HoldsAnswer, printed_text}
use Rattle.certificate.specs.Laws.{HeldIsGood}
use Rattle.cert_tools.specs.Trimmed.{IsTrimmed}
use Rattle.cert_tools.specs.Laws.{OneTrimmed, OneHeld}
use Rattle.plain_commands.specs.Trim.{IsTrimmedText, IsTrimming}

trimming : (c : Circuit) (loaded trimmed : Loaded) (text claimed : List ℕ) → HeldIsGood c → OneTrimmed c → OneHeld c → IsTrimmed c loaded trimmed
    → (length (printed_text trimmed) ≤ most_bytes → HoldsAnswer c (printed_text trimmed) trimmed) → IsTrimmed c trimmed trimmed
    → text ≡ printed_text trimmed → length text ≤ most_bytes → HoldsAnswer c claimed loaded → IsTrimming c claimed text
trimming c loaded trimmed text claimed good one held trims good_text again spelled within has =
    let holds : HoldsAnswer c text trimmed = subst (λ t. HoldsAnswer c t trimmed) (sym spelled) (good_text (subst (λ t. length t ≤ most_bytes) spelled within)) in
    record {
      loaded = loaded;
      has = has;
      trimmed = trimmed;
      trims = trims;
      printed = spelled;
      good_again = good text trimmed holds;
      again = (trimmed, trimmed, holds, again, spelled);
      only = λ other (first, second, there, h, printed).
          let same : first ≡ trimmed = held text first trimmed there holds in
          let last : second ≡ trimmed = one trimmed second trimmed (subst (λ (l : Loaded). IsTrimmed c l second) same h) again in
          printed ∙ ap printed_text last ∙ sym spelled;
    }

pub trims : {T E : Type 0} (items : T → List ℕ) (c : Circuit) (loaded trimmed : Loaded) (result : Result T E) → HeldIsGood c → OneTrimmed c → OneHeld c → IsTrimmed c loaded trimmed
    → (length (printed_text trimmed) ≤ most_bytes → HoldsAnswer c (printed_text trimmed) trimmed) → IsTrimmed c trimmed trimmed
    → IfOk result (λ text. items text ≡ printed_text trimmed) → IfOk result (λ text. length (items text) ≤ most_bytes)
    → IfOk result (λ text. (claimed : List ℕ) → HoldsAnswer c claimed loaded → IsTrimming c claimed (items text))
trims items c loaded trimmed (Ok text) good one held h good_text again spelled within = λ claimed has. trimming c loaded trimmed (items text) claimed good one held h good_text again spelled within has
trims items c loaded trimmed (Err refused) good one held h good_text again spelled within = tt
