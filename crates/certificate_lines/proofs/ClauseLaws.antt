-- What is read of a clause's line is what it spells.
use Rattle.std.proofs.Common.{◌≡◌, ℕ, ◌<◌, ◌^◌, Bool, true, false, cond, eqb, eqb-true, ◌≢◌, List, [], ◌∷◌, ◌++◌, map, Option, Some, None, refl, ap, sym, subst, ◌∙◌, arith, append_assoc, take, length, ◌≤◌}
use Rattle.std.specs.Prelude.{decimal, All, flat_map, option_map, option_and_then, Result, Ok, Err, IfOk, IfSome, IfNone}
use Rattle.std.specs.List.{join_with_byte}
use Rattle.std.proofs.lemmas.Bool.{ne_eqb}
use Rattle.std.proofs.lemmas.Fmt.{decimal_digit}
use Rattle.std.proofs.lemmas.Option.{same_Some, none-some}
use Rattle.std.proofs.lemmas.List.Elements.{All-nil, All-cons, All-append, All-head, All-tail}
use Rattle.text_grammar.specs.Pieces.{fields}
use Rattle.certificate_lines.specs.Fields.{IsNumber, number_in, read_each}
use Rattle.certificate_lines.specs.Clauses.{clause_text, IsClauseLine, SpellsNoClause, before_zero, clause_of}
use Rattle.certificate_lines.specs.Laws.{ReadsClauses, OneClause}
use Rattle.certificate_lines.proofs.FieldLaws.{then_given, map_given, text_given, text_back, number_reads, same_read, taken}

last_given : (n : ℕ) (literals : List ℕ) (b : Bool) → eqb n 0 ≡ b → cond b (Some []) None ≡ Some literals → n ∷ [] ≡ literals ++ 0 ∷ []
last_given n literals true test e =
    let none : [] ≡ literals = same_Some _ _ e in
    (λ i. eqb-true n 0 test i ∷ []) ∙ ap (λ ls. ls ++ 0 ∷ []) none
last_given n literals false test e = absurd (cc)

pub zero_given : (numbers literals : List ℕ) → before_zero numbers ≡ Some literals → numbers ≡ literals ++ 0 ∷ []
zero_given [] literals e = absurd (cc)
zero_given (n ∷ []) literals e = last_given n literals (eqb n 0) refl e
zero_given (n ∷ next ∷ more) literals e =
    let later = map_given (λ ls. n ∷ ls) (before_zero (next ∷ more)) literals e in
    ap (λ ns. n ∷ ns) (zero_given (next ∷ more) later.0 later.1) ∙ ap (λ ls. ls ++ 0 ∷ []) later.2

pub zero_back : (literals : List ℕ) → before_zero (literals ++ 0 ∷ []) ≡ Some literals
zero_back [] = refl
zero_back (n ∷ []) = refl
zero_back (n ∷ next ∷ more) = ap (option_map (λ ls. n ∷ ls)) (zero_back (next ∷ more))

-- the last number is another
pub other_last : (front : List ℕ) (n : ℕ) → eqb n 0 ≡ false → before_zero (front ++ n ∷ []) ≡ None
other_last [] n e = ap (λ b. cond b (Some []) None) e
other_last (m ∷ []) n e = ap (option_map (λ ls. m ∷ ls)) (other_last [] n e)
other_last (m ∷ next ∷ more) n e = ap (option_map (λ ls. m ∷ ls)) (other_last (next ∷ more) n e)

front_all : (front : List ℕ) (n : ℕ) → All IsNumber (front ++ n ∷ []) → All IsNumber front
front_all [] n all = All-nil IsNumber
front_all (m ∷ front) n all = All-cons IsNumber m front (All-head IsNumber m (front ++ n ∷ []) all) (front_all front n (All-tail IsNumber m (front ++ n ∷ []) all))

pub clause_given : (bytes literals : List ℕ) → clause_of bytes ≡ Some literals → IsClauseLine bytes literals
unfolding clause_of
clause_given bytes literals e =
    let numbers = then_given before_zero (read_each number_in (fields bytes)) literals e in
    let text = text_given number_in decimal IsNumber number_reads bytes numbers.0 numbers.1 in
    let zero = zero_given numbers.0 literals numbers.2 in
    record {
      each = front_all literals 0 (subst (All IsNumber) zero text.0);
      spelled = text.1 ∙ ap (λ ns. join_with_byte 32 (map decimal ns)) zero;
    }

numbers_back : (numbers : List ℕ) → All IsNumber numbers → (n : ℕ) (front : List ℕ) → numbers ≡ front ++ n ∷ []
    → read_each number_in (fields (join_with_byte 32 (map decimal numbers))) ≡ Some numbers
numbers_back [] all n [] e = absurd (cc)
numbers_back [] all n (m ∷ front) e = absurd (cc)
numbers_back (m ∷ numbers) all n front e = text_back number_in decimal IsNumber number_reads m numbers all

pub clause_back : (bytes literals : List ℕ) → IsClauseLine bytes literals → clause_of bytes ≡ Some literals
unfolding clause_of
clause_back bytes literals line =
    let small : 0 < 2 ^ 63 = omega arith in
    let all = All-append IsNumber literals (0 ∷ []) line.each (All-cons IsNumber 0 [] small (All-nil IsNumber)) in
    ap (λ text. option_and_then before_zero (read_each number_in (fields text))) line.spelled
    ∙ ap (option_and_then before_zero) (numbers_back (literals ++ 0 ∷ []) all 0 literals refl)
    ∙ zero_back literals

pub reads_clauses : ReadsClauses
reads_clauses bytes literals = (clause_given bytes literals, clause_back bytes literals)

pub no_clause : (bytes : List ℕ) → clause_of bytes ≡ None → SpellsNoClause bytes
no_clause bytes none literals line = none-some _ (sym none ∙ clause_back bytes literals line)

pub one_clause : OneClause
one_clause bytes ls ms l m = same_read (clause_of bytes) ls ms (clause_back bytes ls l) (clause_back bytes ms m)

-- the same of a reading that memory may be refused to
pub found_clause : {E : Type 0} → (r : Result (Option (List ℕ)) E) (bytes : List ℕ) → IfOk r (λ ls. ls ≡ clause_of bytes) → IfOk r (λ ls. IfSome ls (λ literals. IsClauseLine bytes literals))
found_clause (Ok None) bytes e = tt
found_clause (Ok (Some literals)) bytes e = clause_given bytes literals (sym e)
found_clause (Err memory) bytes e = tt

pub none_clause : {E : Type 0} → (r : Result (Option (List ℕ)) E) (bytes : List ℕ) → IfOk r (λ ls. ls ≡ clause_of bytes) → IfOk r (λ ls. IfNone ls (SpellsNoClause bytes))
none_clause (Ok None) bytes e = no_clause bytes (sym e)
none_clause (Ok (Some literals)) bytes e = tt
none_clause (Err memory) bytes e = tt

-- for the functions that read a line
pub zero_last : (numbers front : List ℕ) (n : ℕ) → numbers ≡ front ++ n ∷ [] → n ≡ 0 → before_zero numbers ≡ Some front
zero_last numbers front n e zero = ap before_zero e ∙ (λ i. before_zero (front ++ zero i ∷ [])) ∙ zero_back front

pub other_than_zero : (numbers front : List ℕ) (n : ℕ) → numbers ≡ front ++ n ∷ [] → n ≢ 0 → before_zero numbers ≡ None
other_than_zero numbers front n e other = ap before_zero e ∙ other_last front n (ne_eqb n 0 other)

pub clause_some : (bytes numbers : List ℕ) → Some numbers ≡ read_each number_in (fields bytes) → clause_of bytes ≡ before_zero numbers
unfolding clause_of
clause_some bytes numbers e = ap (option_and_then before_zero) (sym e)

pub clause_none : (bytes : List ℕ) → None ≡ read_each number_in (fields bytes) → clause_of bytes ≡ None
unfolding clause_of
clause_none bytes e = ap (option_and_then before_zero) (sym e)

-- for the function that writes one
pub clause_written : (literals : List ℕ) → flat_map (λ n. decimal n ++ 32 ∷ []) literals ++ 48 ∷ [] ≡ clause_text literals
clause_written [] = sym (decimal_digit 0 (omega arith))
clause_written (n ∷ []) =
    append_assoc (decimal n ++ 32 ∷ []) [] (48 ∷ []) ∙ append_assoc (decimal n) (32 ∷ []) (48 ∷ []) ∙ ap (λ text. decimal n ++ 32 ∷ text) (sym (decimal_digit 0 (omega arith)))
clause_written (n ∷ next ∷ more) =
    append_assoc (decimal n ++ 32 ∷ []) (flat_map (λ n. decimal n ++ 32 ∷ []) (next ∷ more)) (48 ∷ [])
    ∙ append_assoc (decimal n) (32 ∷ []) (flat_map (λ n. decimal n ++ 32 ∷ []) (next ∷ more) ++ 48 ∷ [])
    ∙ ap (λ text. decimal n ++ 32 ∷ text) (clause_written (next ∷ more))

pub all_written : (out end old literals : List ℕ) (n : ℕ) → out ≡ old ++ flat_map (λ n. decimal n ++ 32 ∷ []) (take n literals) → length literals ≤ n
    → end ≡ out ++ 48 ∷ [] → end ≡ old ++ clause_text literals
all_written out end old literals n so_far past last =
    last
    ∙ ap (λ text. text ++ 48 ∷ []) (so_far ∙ ap (λ ls. old ++ flat_map (λ n. decimal n ++ 32 ∷ []) ls) (taken literals n past))
    ∙ append_assoc old (flat_map (λ n. decimal n ++ 32 ∷ []) literals) (48 ∷ [])
    ∙ ap (λ text. old ++ text) (clause_written literals)
