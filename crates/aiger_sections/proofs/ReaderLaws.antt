-- One law for each reader: what is read stands so, and what stands so is read. Laws compose as the readers do.
use Rattle.std.proofs.Common.{◌≡◌, ℕ, List, Result, Ok, Err, refl, ap, subst, ◌∙◌}
use Rattle.circuit.specs.declared.faults.ModelFault.{ModelFault}
use Rattle.aiger_grammar.specs.Reading.{Reader, ◌>>=◌}

-- x stands at the front of bytes, and rest follows it
abbrev pub Standing : Type 0 → Type 1
Standing A = A → List ℕ → List ℕ → Type 0

pub record Reads {A : Type 0} (read : Reader A) (Stands : A → List ℕ → List ℕ → Type 0) : Type 0 where
  pub takes : (x : A) (bytes rest : List ℕ) → read bytes ≡ Ok (x, rest) → Stands x bytes rest
  pub again : (x : A) (bytes rest : List ℕ) → Stands x bytes rest → read bytes ≡ Ok (x, rest)

-- the value of a step that did not fail
pub bind_ok : {A B : Type 0} (r : Result (A × List ℕ) ModelFault) (f : A → List ℕ → Result B ModelFault) (y : B) → (r >>= f) ≡ Ok y
    → (x : A) × (mid : List ℕ) × (r ≡ Ok (x, mid)) × (f x mid ≡ Ok y)
bind_ok (Ok x) f y e = (x.0, x.1, refl, e)
bind_ok (Err d) f y e = absurd cc

-- one behind the other
abbrev pub Then : {A B : Type 0} → (A → List ℕ → List ℕ → Type 0) → (A → B → List ℕ → List ℕ → Type 0) → B → List ℕ → List ℕ → Type 0
Then First Second y bytes rest = (x : _) × (mid : List ℕ) × First x bytes mid × Second x y mid rest

pub then_reads : {A B : Type 0} {First : A → List ℕ → List ℕ → Type 0} {Second : A → B → List ℕ → List ℕ → Type 0} (read : Reader A) (next : A → Reader B)
    → Reads read First → ((x : A) → Reads (next x) (Second x)) → Reads (λ bytes. read bytes >>= next) (Then First Second)
then_reads read next first second = record {
  takes = λ y bytes rest e.
      let b = bind_ok (read bytes) next (y, rest) e in
      (b.0, b.1, first.takes b.0 bytes b.1 b.2, (second b.0).takes y b.1 rest b.3);
  again = λ y bytes rest s. ap (λ r. r >>= next) (first.again s.0 bytes s.1 s.2) ∙ (second s.0).again y s.1 rest s.3;
}

abbrev ok : {A : Type 0} → A → Result A ModelFault
ok x = Ok x

pub same_ok : {A : Type 0} (x y : A) → ok x ≡ ok y → x ≡ y
same_ok x y e = cc

-- a value without a byte
pub done_reads : {A : Type 0} (x : A) → Reads (λ bytes. Ok (x, bytes)) (λ y bytes rest. (x ≡ y) × (bytes ≡ rest))
done_reads x = record {
  takes = λ y bytes rest e. let p = same_ok (x, bytes) (y, rest) e in (ap (λ q. q.0) p, ap (λ q. q.1) p);
  again = λ y bytes rest s. ap (λ z. Ok (z, bytes)) s.0 ∙ ap (λ r. Ok (y, r)) s.1;
}

-- a value that is made of what was read
pub map_reads : {A B : Type 0} {Stands : A → List ℕ → List ℕ → Type 0} (read : Reader A) (f : A → B) → Reads read Stands
    → Reads (λ bytes. read bytes >>= λ x rest. Ok (f x, rest)) (λ y bytes rest. (x : A) × Stands x bytes rest × (f x ≡ y))
map_reads {Stands = Stands} read f law = record {
  takes = λ y bytes rest e.
      let b = bind_ok (read bytes) (λ x mid. Ok (f x, mid)) (y, rest) e in
      let p = same_ok (f b.0, b.1) (y, rest) b.3 in
      (b.0, subst (λ r. Stands b.0 bytes r) (ap (λ q. q.1) p) (law.takes b.0 bytes b.1 b.2), ap (λ q. q.0) p);
  again = λ y bytes rest s. ap (λ r. r >>= λ x mid. Ok (f x, mid)) (law.again s.0 bytes rest s.1) ∙ ap (λ z. Ok (z, rest)) s.2;
}

-- the same reader, said in other words
pub said : {A : Type 0} {read : Reader A} {Stands Other : A → List ℕ → List ℕ → Type 0} → Reads read Stands
    → ((x : A) (bytes rest : List ℕ) → Stands x bytes rest → Other x bytes rest)
    → ((x : A) (bytes rest : List ℕ) → Other x bytes rest → Stands x bytes rest) → Reads read Other
said law there back = record {
  takes = λ x bytes rest e. there x bytes rest (law.takes x bytes rest e);
  again = λ x bytes rest s. law.again x bytes rest (back x bytes rest s);
}
