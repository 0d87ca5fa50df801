-- The values of `export` are names and an item, or are none; and they are one at most.
use Rattle.std.proofs.Common.{◌≡◌, inl, inr, ℕ, List, refl, sym, ◌∙◌, arith, codes}
use Rattle.clap.specs.Walk.{Row, first_of}
use Rattle.command_lines.specs.declared.commands.exporting.ExportRequest.{ExportRequest}
use Rattle.command_lines.specs.Words.{IsNumberGiven, flag_in}
use Rattle.command_lines.specs.Check.{MeansCheck}
use Rattle.command_lines.specs.Export.{IsItemGiven, MeansExport}
use Rattle.command_lines.specs.Commands.{Export}
use Rattle.command_lines.proofs.Values.{SomeOrNone, number_given_or_none, names_or_none, one_text, one_number}

item_or_none : (rows : List Row) → SomeOrNone (IsItemGiven rows)
item_or_none rows =
    by (number_given_or_none rows (codes "ENTRY") 0 4294967295 (omega arith)) (number_given_or_none rows (codes "CLAUSE") 0 4294967295 (omega arith))
  where
    by : SomeOrNone (IsNumberGiven rows (codes "ENTRY") 0 4294967295) → SomeOrNone (IsNumberGiven rows (codes "CLAUSE") 0 4294967295) → SomeOrNone (IsItemGiven rows)
    by (inl entry) (inl clause) =
        inl (record { entry = entry.0; clause = clause.0; lrat = flag_in rows (codes "lrat") }, record { entry_number = entry.1; clause_number = clause.1; form = refl })
    by (inr none) clause = inr (λ request h. none request.entry h.entry_number)
    by (inl entry) (inr none) = inr (λ request h. none request.clause h.clause_number)

-- the names and the item of `export`
abbrev pub Exports : Type 0
Exports = List ℕ × List ℕ × ExportRequest

pub export_or_none : (rows : List Row) → SomeOrNone (λ (exports : Exports). MeansExport rows exports.0 exports.1 exports.2)
export_or_none rows = by (names_or_none rows) (item_or_none rows)
  where
    by : SomeOrNone (λ (names : List ℕ × List ℕ). MeansCheck rows names.0 names.1) → SomeOrNone (IsItemGiven rows)
        → SomeOrNone (λ (exports : Exports). MeansExport rows exports.0 exports.1 exports.2)
    by (inl names) (inl item) = inl ((names.0.0, names.0.1, item.0), (names.1, item.1))
    by (inr none) item = inr (λ exports h. none (exports.0, exports.1) h.0)
    by (inl names) (inr none) = inr (λ exports h. none exports.2 h.1)

same_item : (a b : ExportRequest) → a.entry ≡ b.entry → a.clause ≡ b.clause → a.lrat ≡ b.lrat → a ≡ b
same_item a b e k f = λ i. record { entry = e i; clause = k i; lrat = f i }

one_item : (rows : List Row) (a b : ExportRequest) → IsItemGiven rows a → IsItemGiven rows b → a ≡ b
one_item rows a b h k =
    same_item a b (one_number rows (codes "ENTRY") 0 4294967295 a.entry b.entry h.entry_number k.entry_number)
    (one_number rows (codes "CLAUSE") 0 4294967295 a.clause b.clause h.clause_number k.clause_number) (sym h.form ∙ k.form)

pub one_export : (rows : List Row) (a b : Exports) → MeansExport rows a.0 a.1 a.2 → MeansExport rows b.0 b.1 b.2 → Export a.0 a.1 a.2 ≡ Export b.0 b.1 b.2
one_export rows a b h k =
    let model : a.0 ≡ b.0 = one_text (first_of (codes "MODEL") rows) a.0 b.0 h.0.model_name k.0.model_name in
    let answer : a.1 ≡ b.1 = one_text (first_of (codes "ANSWER") rows) a.1 b.1 h.0.answer_name k.0.answer_name in
    let item : a.2 ≡ b.2 = one_item rows a.2 b.2 h.1 k.1 in λ i. Export (model i) (answer i) (item i)
