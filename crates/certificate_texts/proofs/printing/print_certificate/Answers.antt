use Rattle.std.proofs.Common.{rules, ◌≡◌, ℕ, List, [], subst, flat_map}
use Rattle.fair_semantics.specs.declared.entries.Use.{Use}
use Rattle.certificate_texts.specs.Certificates.{Written, entry_lines}
use Rattle.certificate_texts.specs.Adding.{Adds, head_lines, last_lines}
use Rattle.certificate_texts.proofs.AddedLines.{certificate_added}
use Rattle.certificate_texts.proofs.printing.print_certificate.Goals as goal

pub returns : goal.returns
returns c =
    let empty : c.new-text.result.items ≡ [] = search rules in
    let head : Adds [] c.add_head.new.text.items (head_lines c.args.property) =
    subst (λ (old : List ℕ). Adds old c.add_head.new.text.items (head_lines c.args.property)) empty c.in_ok-add_head.ensures in
    let entries : Adds c.add_head.new.text.items c.add_entries.new.text.items (flat_map entry_lines c.args.certificate.now.entries) =
    subst (λ (es : List Written). Adds c.add_head.new.text.items c.add_entries.new.text.items (flat_map entry_lines es)) c.as_slice.ensures c.in_ok-add_entries.ensures in
    let last : Adds c.add_entries.new.text.items c.add_last.new.text.items (last_lines c.args.certificate.now.uses c.args.certificate.now.proof) =
    subst (λ (us : List Use). Adds c.add_entries.new.text.items c.add_last.new.text.items (last_lines us c.args.certificate.now.proof)) c.as_slice-2.ensures
    (subst (λ (ls : List (List ℕ)). Adds c.add_entries.new.text.items c.add_last.new.text.items (last_lines c.as_slice-2.result.now ls)) c.as_slice-3.ensures c.in_ok-add_last.ensures) in
    certificate_added c.args.property c.args.certificate.now c.add_head.new.text.items c.add_entries.new.text.items c.add_last.new.text.items head entries last
