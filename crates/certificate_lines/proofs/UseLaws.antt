-- What is read of a line of uses is what it spells.
use Rattle.std.proofs.Common.{◌≡◌, ◌≢◌, ℕ, ◌-◌, ◌<◌, ◌^◌, Bool, true, false, cond, eqb, eqb-true, List, [], ◌∷◌, ◌++◌, map, Option, Some, None, refl, ap, sym, subst, ◌∙◌, arith, length, length-append, append_assoc, take, ◌≤◌}
use Rattle.std.specs.Prelude.{decimal, All, option_map, flat_map, Result, Ok, Err, IfOk, IfSome, IfNone}
use Rattle.std.specs.List.{join_with_byte}
use Rattle.std.proofs.lemmas.Fmt.{decimal_nonempty}
use Rattle.std.proofs.lemmas.Option.{same_Some, none-some}
use Rattle.std.proofs.lemmas.List.{append-nil}
use Rattle.std.proofs.lemmas.List.Elements.{All-nil, All-cons, All-append, All-weaker}
use Rattle.text_grammar.specs.Numerals.{number_at, IsNumeral, begins_with_digit}
use Rattle.text_grammar.specs.Pieces.{Lacks, fields}
use Rattle.text_grammar.proofs.NumeralLaws.{read_stands, stands_read}
use Rattle.fair_semantics.specs.declared.entries.Side.{Side}
use Rattle.fair_semantics.specs.declared.entries.Side.TheVariants.{Any, In, Out}
use Rattle.fair_semantics.specs.declared.entries.Use.{Use}
use Rattle.certificate_lines.specs.declared.uses.WrittenUse.{WrittenUse}
use Rattle.certificate_lines.specs.declared.words.Version.{Version}
use Rattle.certificate_lines.specs.declared.words.Version.TheVariants.{One, Two}
use Rattle.certificate_lines.specs.Fields.{IsNumber, read_each}
use Rattle.certificate_lines.specs.Uses.{written, sign_text, use_text, uses_text, HasSide, MayStand, AreUses, SpellsNoUses, side_in, signed, use_in, uses_of}
use Rattle.certificate_lines.specs.Laws.{ReadsUses, OneListOfUses}
use Rattle.certificate_lines.proofs.FieldLaws.{map_given, decimal_lacks, Reads, text_given, text_back, same_read, taken}

abbrev IsSide : Version → List ℕ → Side → Type 0
IsSide version rest side = HasSide version side × (rest ≡ sign_text side)

minus_given : (byte : ℕ) (side : Side) (b : Bool) → eqb byte 45 ≡ b → cond b (Some Out) None ≡ Some side → byte ∷ [] ≡ sign_text side
minus_given byte side true test e = (λ i. eqb-true byte 45 test i ∷ []) ∙ ap sign_text (same_Some _ _ e)
minus_given byte side false test e = absurd (cc)

plus_given : (byte : ℕ) (side : Side) (b : Bool) → eqb byte 43 ≡ b → cond b (Some In) (cond (eqb byte 45) (Some Out) None) ≡ Some side → byte ∷ [] ≡ sign_text side
plus_given byte side true test e = (λ i. eqb-true byte 43 test i ∷ []) ∙ ap sign_text (same_Some _ _ e)
plus_given byte side false test e = minus_given byte side (eqb byte 45) refl e

any_stands : (version : Version) → HasSide version Any
any_stands One = refl
any_stands Two = tt

side_given : (version : Version) (rest : List ℕ) (side : Side) → side_in version rest ≡ Some side → IsSide version rest side
side_given version [] side e = subst (IsSide version []) (same_Some _ _ e) (any_stands version, refl)
side_given One (byte ∷ rest) side e = absurd (cc)
side_given Two (byte ∷ []) side e = (tt, plus_given byte side (eqb byte 43) refl e)
side_given Two (byte ∷ next ∷ rest) side e = absurd (cc)

side_back : (version : Version) (side : Side) → HasSide version side → side_in version (sign_text side) ≡ Some side
side_back version Any has = refl
side_back Two In has = refl
side_back Two Out has = refl
side_back One In has = absurd (cc)
side_back One Out has = absurd (cc)

signed_given : (version : Version) (o : Option (ℕ × List ℕ)) (u : WrittenUse) → signed version o ≡ Some u
    → (n : ℕ) × (side : Side) × (rest : List ℕ) × (o ≡ Some (n, rest)) × (side_in version rest ≡ Some side) × (record { number = n; side = side } ≡ u)
signed_given version None u e = absurd (cc)
signed_given version (Some (n, rest)) u e =
    let side = map_given (λ s. record { number = n; side = s }) (side_in version rest) u e in
    (n, side.0, rest, refl, side.1, side.2)

pub use_given : (version : Version) (field : List ℕ) (u : WrittenUse) → use_in version field ≡ Some u → MayStand version u × (field ≡ use_text u)
use_given version field u e =
    let (n, side, rest, read, named, is) = signed_given version (number_at (2 ^ 63 - 1) field) u e in
    let stands = read_stands (2 ^ 63 - 1) n field rest (omega arith) read in
    let sign = side_given version rest side named in
    let small : n < 2 ^ 63 = omega (arith, stands.small) in
    let P : WrittenUse → Type 0 = λ u. MayStand version u × (field ≡ use_text u) in
    subst P is ((small, sign.0), stands.spelled ∙ ap (λ text. decimal n ++ text) sign.1)

no_digit : (side : Side) → begins_with_digit (sign_text side) ≡ false
no_digit Any = refl
no_digit In = refl
no_digit Out = refl

pub use_back : (version : Version) (u : WrittenUse) → MayStand version u → use_in version (use_text u) ≡ Some u
use_back version u may =
    let stands : IsNumeral (2 ^ 63 - 1) u.number (use_text u) (sign_text u.side) =
    record { small = omega (arith, may.0); spelled = refl; whole = no_digit u.side } in
    ap (signed version) (stands_read (2 ^ 63 - 1) u.number (use_text u) (sign_text u.side) (omega arith) stands)
    ∙ ap (option_map (λ s. record { number = u.number; side = s })) (side_back version u.side may.1)

sign_lacks : (side : Side) → Lacks (sign_text side) 32
sign_lacks Any = All-nil (λ b. b ≢ 32)
sign_lacks In = let differs : 43 ≢ 32 = omega arith in All-cons (λ b. b ≢ 32) 43 [] differs (All-nil (λ b. b ≢ 32))
sign_lacks Out = let differs : 45 ≢ 32 = omega arith in All-cons (λ b. b ≢ 32) 45 [] differs (All-nil (λ b. b ≢ 32))

use_lacks : (version : Version) (u : WrittenUse) → MayStand version u → Lacks (use_text u) 32
use_lacks version u may = All-append (λ b. b ≢ 32) (decimal u.number) (sign_text u.side) (decimal_lacks u.number may.0) (sign_lacks u.side)

use_reads : (version : Version) → Reads (use_in version) use_text (MayStand version)
use_reads version = record { given = use_given version; back = use_back version; lacks = use_lacks version }

pub uses_given : (version : Version) (bytes : List ℕ) (uses : List WrittenUse) → uses_of version bytes ≡ Some uses → AreUses version bytes uses
unfolding uses_of
uses_given version [] uses e = subst (AreUses version []) (same_Some _ _ e) (record { each = All-nil (MayStand version); spelled = refl })
uses_given version (byte ∷ bytes) uses e =
    let text = text_given (use_in version) use_text (MayStand version) (use_reads version) (byte ∷ bytes) uses e in
    record { each = text.0; spelled = text.1 }

pub no_use : (version : Version) → uses_of version [] ≡ Some []
unfolding uses_of
no_use version = refl

pub some_use : (version : Version) (bytes : List ℕ) → 0 < length bytes → uses_of version bytes ≡ read_each (use_in version) (fields bytes)
unfolding uses_of
some_use version [] some = absurd (omega arith)
some_use version (byte ∷ bytes) some = refl

-- a use has a byte
use_some : (u : WrittenUse) → IsNumber u.number → 0 < length (use_text u)
use_some u small = let some = decimal_nonempty u.number (omega arith) in omega (arith, length-append (decimal u.number) (sign_text u.side))

join_some : (text : List ℕ) (texts : List (List ℕ)) → 0 < length text → 0 < length (join_with_byte 32 (text ∷ texts))
join_some text [] some = some
join_some text (next ∷ texts) some = omega (arith, length-append text (32 ∷ join_with_byte 32 (next ∷ texts)))

texts_back : (version : Version) (uses : List WrittenUse) → All (MayStand version) uses → uses_of version (uses_text uses) ≡ Some uses
texts_back version [] each = no_use version
texts_back version (u ∷ uses) each =
    let first : MayStand version u = each 0 u (omega arith) in
    some_use version (uses_text (u ∷ uses)) (join_some (use_text u) (map use_text uses) (use_some u first.0))
    ∙ text_back (use_in version) use_text (MayStand version) (use_reads version) u uses each

pub uses_back : (version : Version) (bytes : List ℕ) (uses : List WrittenUse) → AreUses version bytes uses → uses_of version bytes ≡ Some uses
uses_back version bytes uses are = ap (uses_of version) are.spelled ∙ texts_back version uses are.each

pub reads_uses : ReadsUses
reads_uses version bytes uses = (uses_given version bytes uses, uses_back version bytes uses)

pub no_uses : (version : Version) (bytes : List ℕ) → uses_of version bytes ≡ None → SpellsNoUses version bytes
no_uses version bytes none uses are = none-some _ (sym none ∙ uses_back version bytes uses are)

-- what stands in version 1 stands in version 2
later_stands : (version : Version) (u : WrittenUse) → MayStand version u → MayStand Two u
later_stands version u may = (may.0, tt)

later_version : (version : Version) (bytes : List ℕ) (uses : List WrittenUse) → AreUses version bytes uses → AreUses Two bytes uses
later_version version bytes uses are = record {
  each = All-weaker (MayStand version) (MayStand Two) (later_stands version) uses are.each;
  spelled = are.spelled;
}

pub one_list_of_uses : OneListOfUses
one_list_of_uses v w bytes us more first second =
    same_read (uses_of Two bytes) us more (uses_back Two bytes us (later_version v bytes us first)) (uses_back Two bytes more (later_version w bytes more second))

-- the same of a reading that memory may be refused to
pub found_uses : {E : Type 0} → (r : Result (Option (List WrittenUse)) E) (version : Version) (bytes : List ℕ) → IfOk r (λ us. us ≡ uses_of version bytes)
    → IfOk r (λ us. IfSome us (λ uses. AreUses version bytes uses))
found_uses (Ok None) version bytes e = tt
found_uses (Ok (Some uses)) version bytes e = uses_given version bytes uses (sym e)
found_uses (Err memory) version bytes e = tt

pub none_uses : {E : Type 0} → (r : Result (Option (List WrittenUse)) E) (version : Version) (bytes : List ℕ) → IfOk r (λ us. us ≡ uses_of version bytes)
    → IfOk r (λ us. IfNone us (SpellsNoUses version bytes))
none_uses (Ok None) version bytes e = no_uses version bytes (sym e)
none_uses (Ok (Some uses)) version bytes e = tt
none_uses (Err memory) version bytes e = tt

-- for the function that writes them: each use but the first has a space in front
pub uses_written : (u : Use) (uses : List Use) → use_text (written u) ++ flat_map (λ v. 32 ∷ use_text (written v)) uses ≡ uses_text (map written (u ∷ uses))
uses_written u [] = append-nil (use_text (written u))
uses_written u (v ∷ uses) = ap (λ text. use_text (written u) ++ 32 ∷ text) (uses_written v uses)

pub no_use_written : (uses : List Use) (out : List ℕ) → uses ≡ [] → out ≡ out ++ uses_text (map written uses)
no_use_written uses out none = sym (append-nil out) ∙ ap (λ us. out ++ uses_text (map written us)) (sym none)

pub all_written : (out mid old : List ℕ) (u : Use) (more uses : List Use) (n : ℕ) → mid ≡ old ++ use_text (written u) → uses ≡ u ∷ more
    → out ≡ mid ++ flat_map (λ v. 32 ∷ use_text (written v)) (take n more) → length more ≤ n → out ≡ old ++ uses_text (map written uses)
all_written out mid old u more uses n first is so_far past =
    let rest : List ℕ = flat_map (λ v. 32 ∷ use_text (written v)) more in
    so_far
    ∙ ap (λ us. mid ++ flat_map (λ v. 32 ∷ use_text (written v)) us) (taken more n past)
    ∙ ap (λ text. text ++ rest) first
    ∙ append_assoc old (use_text (written u)) rest
    ∙ ap (λ text. old ++ text) (uses_written u more ∙ ap (λ us. uses_text (map written us)) (sym is))

pub empty_is : (bytes : List ℕ) → eqb (length bytes) 0 ≡ true → bytes ≡ []
empty_is [] e = refl
empty_is (byte ∷ bytes) e = let zero : length (byte ∷ bytes) ≡ 0 = eqb-true (length (byte ∷ bytes)) 0 e in absurd (omega (arith, zero))
