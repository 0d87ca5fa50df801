use Rattle.aiger_grammar.specs.AsciiTexts.{IsAsciiTextOf, ascii_at}
use Rattle.aiger_sections.proofs.FormLaws.{read_model, read_stands}
use Rattle.aiger_ascii.proofs.TextLaws.{ascii_reads}
use Rattle.aiger_ascii.proofs.reading.read_checked.Goals as goal

pub keep_circuit-requires : goal.keep_circuit-requires
keep_circuit-requires c = ascii_reads.range c.args.bytes.now c.in_ok-parts.parts c.in_ok-parts.names c.in_ok-parts.ensures

pub new-requires : goal.new-requires
new-requires c =
    let e = c.in_ok-kept.ensures in
    rw (e.ok.circuit, e.ok.outputs, e.ok.bad) (read_model IsAsciiTextOf ascii_at ascii_reads c.args.bytes.now c.in_ok-parts.parts c.in_ok-parts.names c.in_ok-parts.ensures e.checked e.defined)

pub returns : goal.returns
returns c =
    let e = c.in_ok-kept.ensures in
    rw (c.new.ensures, e.ok.circuit, e.ok.outputs, e.ok.bad) (read_stands IsAsciiTextOf ascii_at ascii_reads c.args.bytes.now c.in_ok-parts.parts c.in_ok-parts.names c.in_ok-parts.ensures e.checked e.defined)
