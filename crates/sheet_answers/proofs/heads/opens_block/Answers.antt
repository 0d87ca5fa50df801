use Rattle.std.proofs.Common.{rules, ◌≡◌, ◌∙◌, ℕ, Bool, true, false, List, sym, ap}
use Rattle.std.specs.Prelude.{◌&&◌}
use Rattle.std.specs.Str.{bytes_eq}
use Rattle.certificate_texts.specs.Writing.{property_line}
use Rattle.sheet_answers.proofs.BlockWords.{word_test}
use Rattle.sheet_answers.proofs.heads.opens_block.Goals as goal

pub returns-then-eq : goal.returns-then-eq
returns-then-eq c =
    let name : List ℕ = property_line c.args.n in
    let front : List ℕ = c.split_at.result.0.now in
    let field : List ℕ = c.split_at.result.1.now in
    let word : bytes_eq front c.args.word.now ≡ true = search rules in
    let named : c.names.result ≡ bytes_eq field name = c.names.ensures in
    named ∙ sym (ap (λ (b : Bool). b && bytes_eq field name) word)
    ∙ word_test c.args.line.now front field c.args.word.now name c.split_at.ensures.by_index.0 c.split_at.ensures.front_len

pub returns-else-eq : goal.returns-else-eq
returns-else-eq c =
    let name : List ℕ = property_line c.args.n in
    let front : List ℕ = c.split_at.result.0.now in
    let field : List ℕ = c.split_at.result.1.now in
    let word : bytes_eq front c.args.word.now ≡ false = search rules in
    let other : c.eq.result ≡ false = search rules in
    other ∙ sym (ap (λ (b : Bool). b && bytes_eq field name) word)
    ∙ word_test c.args.line.now front field c.args.word.now name c.split_at.ensures.by_index.0 c.split_at.ensures.front_len
