-- Entries whose lines are added to a text, one after the other.
use Rattle.std.proofs.Common.{◌≡◌, ◌<◌, ℕ, ◌+◌, List, [], ◌∷◌, ◌++◌, map, flat_map, length, take, get_or, sym, ap, ◌∙◌, append_assoc, append-nil}
use Rattle.std.specs.Arc.{arc_value}
use Rattle.std.specs.declared.sync.Arc.{Arc}
use Rattle.std.proofs.lemmas.Grind.{flat_map-append}
use Rattle.std.proofs.lemmas.List.{take_more, map-append}
use Rattle.entry.specs.CheckedEntries.{CheckedEntry}
use Rattle.certificate_texts.specs.Certificates.{entry_lines}
use Rattle.certificate_texts.specs.Adding.{Adds, head_lines}
use Rattle.certificate_texts.proofs.AddedLines.{both_added}
use Rattle.certificate.specs.Writing.{listed, written_entry}

-- one entry more
pub entries_more : {Z : Type 0} → (i : ℕ) (list : List (Arc CheckedEntry Z)) (shared : Arc CheckedEntry Z) (e : CheckedEntry)
    → i < length list → shared ≡ get_or list i shared → e ≡ arc_value {X = CheckedEntry} shared
    → flat_map entry_lines (map written_entry (listed (take (i + 1) list))) ≡ flat_map entry_lines (map written_entry (listed (take i list))) ++ entry_lines (written_entry e)
entries_more {Z} i list shared e within at is =
    let ls : List CheckedEntry = listed (take i list) in
    let more : listed (take (i + 1) list) ≡ ls ++ e ∷ [] =
    ap listed (take_more list i shared within ∙ ap (λ x. take i list ++ x ∷ []) (sym at))
    ∙ map-append (λ (x : Arc CheckedEntry Z). arc_value {X = CheckedEntry} x) (take i list) (shared ∷ [])
    ∙ ap (λ x. ls ++ x ∷ []) (sym is) in
    ap (λ es. flat_map entry_lines (map written_entry es)) more
    ∙ ap (flat_map entry_lines) (map-append written_entry ls (e ∷ []))
    ∙ flat_map-append entry_lines (map written_entry ls) (written_entry e ∷ [])
    ∙ ap (λ lines. flat_map entry_lines (map written_entry ls) ++ lines) (append-nil (entry_lines (written_entry e)))

-- and its lines
pub entry_added : {Z : Type 0} → (n i : ℕ) (list : List (Arc CheckedEntry Z)) (shared : Arc CheckedEntry Z) (e : CheckedEntry) (mid new : List ℕ)
    → i < length list → shared ≡ get_or list i shared → e ≡ arc_value {X = CheckedEntry} shared
    → Adds [] mid (head_lines n ++ flat_map entry_lines (map written_entry (listed (take i list)))) → Adds mid new (entry_lines (written_entry e))
    → Adds [] new (head_lines n ++ flat_map entry_lines (map written_entry (listed (take (i + 1) list))))
entry_added {Z} n i list shared e mid new within at is first second =
    let es : List (List ℕ) = flat_map entry_lines (map written_entry (listed (take i list))) in
    both_added [] mid new (head_lines n ++ es) (entry_lines (written_entry e)) _ first second
    (ap (λ lines. head_lines n ++ lines) (entries_more i list shared e within at is) ∙ sym (append_assoc (head_lines n) es (entry_lines (written_entry e))))
