-- The stimulus of a fair lasso, and of the shortest prefix.
use Rattle.std.proofs.Common.{◌≡◌, ℕ, ◌<◌, ◌≤◌, Bool, List, [], ◌∷◌, length, take, sym, ap, ◌∙◌, subst, All, arith}
use Rattle.std.proofs.Math.Seq.{take-length}
use Rattle.std.proofs.lemmas.List.{take-take}
use Rattle.std.proofs.lemmas.List.Elements.{All-nil, All-cons, All-take}
use Rattle.aig_semantics.specs.declared.traces.Stimulus.{Stimulus}
use Rattle.aig_semantics.specs.declared.traces.Lasso.{Lasso}
use Rattle.aig_semantics.specs.Circuits.{Circuit}
use Rattle.aig_semantics.specs.Runs.{position_of, successor, IsRun, IsFairLasso}
use Rattle.aig_semantics.specs.Stimuli.{simulated, FitsCircuit, HasLasso, StandsFor, IsFairLassoOf}
use Rattle.fair_semantics.proofs.Runs.{run-of}
use Rattle.lasso_join.specs.Prefixes.{stimulus_of}

start-fits : (c : Circuit) (latches : List Bool) (inputs : List (List Bool)) (from : ℕ) → from < length (simulated c latches inputs)
    → IsRun c (simulated c latches inputs) → length latches ≡ length c.latches
unfolding simulated
start-fits c latches [] from inside h = absurd (omega arith)
start-fits c latches (now ∷ inputs) from inside h = h.0.position.latches

inputs-fit : (c : Circuit) (latches : List Bool) (inputs : List (List Bool)) → IsRun c (simulated c latches inputs)
    → All (λ values. length values ≡ length c.inputs) inputs
unfolding simulated
inputs-fit c latches [] h = All-nil (λ values. length values ≡ length c.inputs)
inputs-fit c latches (now ∷ inputs) h =
    All-cons (λ values. length values ≡ length c.inputs) now inputs h.0.position.inputs
    (inputs-fit c (successor c (position_of latches now)) inputs h.2)

-- all positions of a fair lasso are a lasso that its stimulus has
pub has-whole : (c : Circuit) (j : ℕ) (lasso : Lasso) → IsFairLassoOf c j lasso → HasLasso c j (stimulus_of lasso) (length lasso.inputs) lasso.from
has-whole c j lasso fair =
    let run = run-of c (simulated c lasso.start lasso.inputs) fair.initial in
    record {
      fits = record {
        latches = start-fits c lasso.start lasso.inputs lasso.from fair.inside run;
        inputs = inputs-fit c lasso.start lasso.inputs run;
      };
      inside = omega arith;
      lasso = subst (λ inputs. IsFairLasso c j (simulated c lasso.start inputs) lasso.from) (sym (take-length lasso.inputs)) fair;
    }

-- what a prefix of a stimulus has, the stimulus has
has-more : (c : Circuit) (j : ℕ) (s : Stimulus) (k n from : ℕ) → FitsCircuit c s → k ≤ length s.inputs → n ≤ k
    → HasLasso c j (record { latches = s.latches; inputs = take k s.inputs }) n from → HasLasso c j s n from
has-more c j s k n from fits inside below h = record {
  fits = fits;
  inside = omega arith;
  lasso = subst (λ inputs. IsFairLasso c j (simulated c s.latches inputs) from) (take-take n k s.inputs below) h.lasso;
}

-- the prefix that a stimulus stands for is a stimulus that stands for all of its own positions
pub stands-whole : (c : Circuit) (j : ℕ) (s : Stimulus) (short : Lasso)
    → StandsFor c j s (length short.inputs) short.from → short.start ≡ s.latches → short.inputs ≡ take (length short.inputs) s.inputs
    → StandsFor c j (stimulus_of short) (length short.inputs) short.from
stands-whole c j s short h start inputs =
    let k : ℕ = length short.inputs in
    let prefix : Stimulus = record { latches = s.latches; inputs = take k s.inputs } in
    let same : prefix ≡ stimulus_of short = λ i. record { latches = sym start i; inputs = sym inputs i } in
    let size : k ≡ length (take k s.inputs) = ap length inputs in
    let fits = h.has.fits in
    let has : HasLasso c j prefix k short.from = record {
      fits = record { latches = fits.latches; inputs = All-take (λ values. length values ≡ length c.inputs) k s.inputs fits.inputs };
      inside = omega arith;
      lasso = subst (λ run. IsFairLasso c j (simulated c s.latches run) short.from)
          (sym (ap (λ n. take n (take k s.inputs)) size ∙ take-length (take k s.inputs))) h.has.lasso;
    }
    in
    let less : (n place : ℕ) → HasLasso c j prefix n place → HasLasso c j s n place =
    λ n place other. has-more c j s k n place fits h.has.inside (let inside = other.inside in omega arith) other
    in
    subst (λ stimulus. StandsFor c j stimulus k short.from) same (record {
      has = has;
      shortest = λ n place other. h.shortest n place (less n place other);
      earliest = λ place other. h.earliest place (less k place other);
    })
