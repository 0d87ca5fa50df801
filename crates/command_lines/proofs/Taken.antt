-- Words that `clap` takes are a command, with values that are a request of it or none.
use Rattle.std.proofs.Common.{◌≡◌, inl, inr, Bool, true, false, List, [], ◌∷◌, refl, sym, ap, ◌∙◌, subst}
use Rattle.std.specs.Prelude.{◌⊎◌, Option, None, Some, is_some, not, ◌&&◌, Result, Ok, Err, IfOk, IfErr}
use Rattle.std.proofs.lemmas.Bool.{false≢true}
use Rattle.std.specs.List.{list_any}
use Rattle.clap.specs.Facts.{explicit_source}
use Rattle.clap.specs.Takes.{is_given}
use Rattle.clap.specs.Walk.{Held, Names, Row, Text, finished, nothing_held, settled, walk, walk_from}
use Rattle.clap.specs.Simple.{Shape, argument_words, built, entered, names_of, subcommand_of}
use Rattle.clap.specs.Kinds.{Kinds, or_else, check_kinds}
use Rattle.clap.specs.Faults.{fault_of, level_fault, entered_fault, check_fault, defaults_fault, settle_fault, walk_fault}
use Rattle.command_lines.specs.declared.commands.Request.{Request as RequestInCode}
use Rattle.command_lines.specs.declared.commands.WordsEnd.{WordsEnd}
use Rattle.command_lines.specs.declared.commands.WordsEnd.TheVariants as ends
use Rattle.command_lines.specs.Commands.{Request, meant, fairlive, Means}
use Rattle.command_lines.specs.Asking.{IsTaken, AsksFor, IsUsage, IsTakenOrUsage, IsTold}
use Rattle.command_lines.specs.Met.{MetFor, IsRead}
use Rattle.command_lines.proofs.Values.{SomeOrNone}
use Rattle.command_lines.proofs.EachCommand.{asked_or_none, one_meant}

or_else-none : (a b : Kinds) → or_else a b ≡ [] → b ≡ []
or_else-none [] b e = e
or_else-none (k ∷ ks) b e = let wrong : k ∷ ks ≡ [] = e in absurd (cc)

-- where a subcommand is wanted there is one
kinds_none : (help wanted argument : Bool) → wanted ≡ true → check_kinds help wanted argument ≡ [] → ⊥
kinds_none true wanted argument is e = let wrong = e in cc
kinds_none false true argument is e = let wrong = e in cc
kinds_none false false argument is e = false≢true is

check_none : (s : Shape) (rows : List Row) (has : Bool) → s.subcommand_required ≡ true → check_fault s rows has ≡ [] → has ≡ true
check_none s rows true is e = refl
check_none s rows false is e =
    absurd (kinds_none (s.arg_required_else_help && not (list_any (λ r. explicit_source r.source) rows)) s.subcommand_required
    (not (s.subcommand_negates_reqs && false) && list_any (λ a. a.required && not (is_given a.id rows)) s.rules) is e)

-- where no step fails the last checks do not
level_none : (s : Shape) (names : Names) (h : Held) (words : List Text) (has : Bool) (below : Kinds) → level_fault s names h words has below ≡ []
    → check_fault s (finished s.rules (walk s.rules names h words).held) has ≡ []
level_none s names h words has below e =
    let end = (walk s.rules names h words).held in
    let last : Kinds = check_fault s (finished s.rules end) has in
    let third : Kinds = defaults_fault (settled s.rules end).rows s.rules in
    let second : Kinds = settle_fault s.rules s.args_override_self end in
    let first : Kinds = walk_fault s names (walk_from h) words in
    or_else-none third last (or_else-none second (or_else third last) (or_else-none below (or_else second (or_else third last))
    (or_else-none first (or_else below (or_else second (or_else third last))) e)))

stop_at : List Text → Option (Text × List Text)
stop_at words = (walk (built fairlive).top.rules (names_of (built fairlive)) nothing_held (argument_words fairlive words)).stopped

there : (words : List Text) → fault_of fairlive words ≡ [] → is_some (entered (built fairlive) (stop_at words)) ≡ true
unfolding stop_at
there words e =
    let a = built fairlive in
    let words_left = argument_words fairlive words in
    let has : Bool = is_some (entered a (stop_at words)) in
    check_none a.top (finished a.top.rules (walk a.top.rules (names_of a) nothing_held words_left).held) has refl
    (level_none a.top (names_of a) nothing_held words_left has (entered_fault a (stop_at words)) e)

-- what was met
pub some_met : (words : List Text) → fault_of fairlive words ≡ [] → (name : Text) × (rows : List Row) × (subcommand_of fairlive words ≡ Some (name, rows))
unfolding stop_at
some_met words e = by (subcommand_of fairlive words) refl (there words e)
  where
    by : (found : Option (Text × List Row)) → subcommand_of fairlive words ≡ found → is_some found ≡ true
        → (name : Text) × (rows : List Row) × (subcommand_of fairlive words ≡ Some (name, rows))
    by (Some (name, rows)) same some = (name, rows, same)
    by None same some = absurd (false≢true some)

of_taken : (words : List Text) (name : Text) (rows : List Row) → IsTaken words name rows → SomeOrNone (λ (asked : Request). Means asked name rows) → IsTakenOrUsage words
of_taken words name rows taken (inl found) = inr (found.0, record { name = name; rows = rows; taken = taken; means = found.1 })
of_taken words name rows taken (inr none) = inl (inr (record { name = name; rows = rows; taken = taken; refused = none }))

pub taken_or_usage : (words : List Text) → IsTakenOrUsage words
taken_or_usage words = by (fault_of fairlive words) refl
  where
    by : (kinds : Kinds) → fault_of fairlive words ≡ kinds → IsTakenOrUsage words
    by [] e =
        let found = some_met words e in
        of_taken words found.0 found.1 (record { faultless = e; command = found.2 }) (asked_or_none found.0 found.1)
    by (k ∷ ks) e = inl (inl (λ none. (let wrong : k ∷ ks ≡ [] = sym e ∙ none in absurd (cc))))

-- ---- what was met is what the words are

pub no_request : (words : List Text) (met : Option (Text × List Row)) → fault_of fairlive words ≡ [] → met ≡ subcommand_of fairlive words
    → ((asked : Request) → MetFor met asked → ⊥) → IsUsage words
no_request words met none same refused =
    let found = some_met words none in
    inr (record {
      name = found.0;
      rows = found.1;
      taken = record { faultless = none; command = found.2 };
      refused = λ asked means. refused asked (found.0, found.1, same ∙ found.2, means);
    })

-- ---- the words ask for one thing at most

same_taken : (name other : Text) (rows others : List Row) → ◌≡◌ {A = Option (Text × List Row)} (Some (name, rows)) (Some (other, others)) → (name ≡ other) × (rows ≡ others)
same_taken name other rows others e =
    let pair : ◌≡◌ {A = Text × List Row} (name, rows) (other, others) = cc in
    (ap (λ (p : Text × List Row). p.0) pair, ap (λ (p : Text × List Row). p.1) pair)

moved : (name other : Text) (rows others : List Row) (asked : Request) → (name ≡ other) × (rows ≡ others) → Means asked other others → Means asked name rows
moved name other rows others asked same h =
    subst (λ (n : Text). Means asked n rows) (sym same.0) (subst (λ (r : List Row). Means asked other r) (sym same.1) h)

pub one_asked : (words : List Text) (a b : Request) → AsksFor words a → AsksFor words b → a ≡ b
one_asked words a b h k =
    one_meant h.name h.rows a b h.means
    (moved h.name k.name h.rows k.rows b (same_taken h.name k.name h.rows k.rows (sym h.taken.command ∙ k.taken.command)) k.means)

pub not_usage : (words : List Text) (asked : Request) → AsksFor words asked → IsUsage words → ⊥
not_usage words asked h (inl fault) = fault h.taken.faultless
not_usage words asked h (inr k) =
    k.refused asked (moved k.name h.name k.rows h.rows asked (same_taken k.name h.name k.rows h.rows (sym k.taken.command ∙ h.taken.command)) h.means)

-- ---- what words that are read are told to be

pub found_read : (words : List Text) (r : Result RequestInCode WordsEnd) → IsRead words r → IfOk r (λ told. AsksFor words (meant told))
found_read words (Ok told) read = read
found_read words (Err end) read = tt

pub told_read : (words : List Text) (r : Result RequestInCode WordsEnd) → IsRead words r → (asked : Request) → AsksFor words asked → IsTold asked r
told_read words (Ok told) read asked asks = one_asked words (meant told) asked read asks
told_read words (Err ends.Usage) read asked asks = absurd (not_usage words asked asks read)
told_read words (Err ends.Memory) read asked asks = refl

pub ended_read : (words : List Text) (r : Result RequestInCode WordsEnd) → IsRead words r
    → IfErr r (λ end. ((end ≡ ends.Usage) × IsUsage words) ⊎ (end ≡ ends.Memory))
ended_read words (Ok told) read = tt
ended_read words (Err ends.Usage) read = inl (refl, read)
ended_read words (Err ends.Memory) read = inr refl
