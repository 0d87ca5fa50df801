-- Obligations of a search: their nodes, their queue, and what becomes of one.
use Rattle.std.proofs.Common.{◌≡◌, ℕ, ◌+◌, ◌-◌, ◌<◌, ◌≤◌, Bool, true, ◌||◌, nat_lt, List, [], ◌∷◌, ◌++◌, length, get_or, take, drop, refl, sym, ap, subst, ◌∙◌, inl, inr, arith}
use Rattle.std.proofs.lemmas.List.{length-append, get_or_append_left, get_or_default}
use Rattle.std.proofs.Math.Seq.{get_or-append_seam}
use Rattle.std.proofs.lemmas.List.Elements.{All-cons, All-append, All-take, All-drop, All-weaker}
use Rattle.std.specs.List.{All, insert}
use Rattle.std.specs.Prelude.{Option, None, Some}
use Rattle.std.proofs.lemmas.Bool.{cases_Bool, cases_lt, and_parts, and_from, or_left, or_right, or_cases, ltb-true, lt-ltb}
use Rattle.aig_semantics.specs.declared.traces.Position.{Position}
use Rattle.aig_semantics.specs.Circuits.{Circuit}
use Rattle.aig_semantics.specs.Runs.{successor}
use Rattle.proof_semantics.specs.declared.literals.Lit.{Lit}
use Rattle.proof_semantics.specs.Clauses.{clause_value, cube_value, values_of, is_part}
use Rattle.ic3_frames.specs.Frames.{frame_at}
use Rattle.ic3_frames.specs.Room.{allowed_by}
use Rattle.ic3_semantics.specs.declared.questions.Goal.{Goal}
use Rattle.ic3_semantics.specs.declared.questions.Goal.TheVariants as goals
use Rattle.ic3_semantics.specs.Searching.{Question, MeetsLiteral}
use Rattle.ic3_semantics.specs.declared.lemmas.Lemma.{Lemma}
use Rattle.ic3_semantics.specs.Stepping.{Stepping, IsArenaStep, IsPredecessor, MeetsFrom, meets_from}
use Rattle.ic3_generalise.proofs.Parts.{part_same}
use Rattle.ic3_loops.specs.declared.obligations.Node.{Node}
use Rattle.ic3_loops.specs.declared.obligations.Way.{Way}
use Rattle.ic3_loops.specs.declared.obligations.Way.TheVariants as ways
use Rattle.ic3_loops.specs.declared.obligations.Lifted.{Lifted}
use Rattle.ic3_loops.specs.declared.obligations.Obligation.{Obligation}
use Rattle.ic3_loops.specs.declared.obligations.Obligations.{Obligations}
use Rattle.ic3_loops.specs.declared.blocking.ConsecutionEnd.{ConsecutionEnd}
use Rattle.ic3_loops.specs.Sound.{IsGoalOf, Agree}
use Rattle.ic3_generalise.specs.Cubes.{value_literals}
use Rattle.ic3_loops.specs.Lifting.{IsLifted, IsGoalLifted}
use Rattle.ic3_loops.proofs.Excluding.{part_true}
use Rattle.ic3_loops.proofs.Sounds.{grow_on}
use Rattle.ic3_loops.specs.Blocking.{way_state, node_state, node_at, state_at, cube_at, IsNode, IsWayTo, AreNodes, IsDue, IsOpen, AreObligations, IsPutIn, IsStateFirst, IsLastFirst, IsLiteralFirst, IsFirst, IsBefore, TellsConsecution, IsKeptWith}

abbrev Levels : Type 0
Levels = List (List (List Lit))

-- ---- nodes

node-grows : (ns more : List Node) (k : ℕ) → k < length ns → node_at (ns ++ more) k ≡ node_at ns k
node-grows ns more k below = get_or_append_left ns more (record { cube = []; way = ways.Goal [] }) k below

pub node-is : (ns : List Node) (k : ℕ) (n : Node) → k < length ns → n ≡ get_or ns k n → n ≡ node_at ns k
node-is ns k n below is = is ∙ get_or_default ns k n (record { cube = []; way = ways.Goal [] }) below

module _ (q : Question) (goal : Goal) where
  way-grows : (k : ℕ) (ns more : List Node) (cube : List Lit) (way : Way) → k ≤ length ns → IsWayTo q goal k ns cube way
      → IsWayTo q goal k (ns ++ more) cube way
  way-grows k ns more cube (ways.Goal s) within is = is
  way-grows k ns more cube (ways.Last p) within is = is
  way-grows k ns more cube (ways.Step p next) within is =
      let into : cube_at ns next ≡ cube_at (ns ++ more) next = ap (λ (n : Node). n.cube) (sym (node-grows ns more next (omega (arith, is.0, within)))) in (
        is.0,
        is.1,
        subst (λ x. cube_value (values_of (successor q.circuit p)) x ≡ true) into is.2,
        subst (λ x. IsLifted q.circuit p x [] cube) into is.3,
      )

  is-grown : (k : ℕ) (ns more : List Node) (n : Node) → k ≤ length ns → IsNode q goal k ns n → IsNode q goal k (ns ++ more) n
  is-grown k ns more n within is = record { size = is.size; part = is.part; way = way-grows k ns more n.cube n.way within is.way }

  pub nodes-push : (ns : List Node) (n : Node) → AreNodes q goal ns → IsNode q goal (length ns) ns n → AreNodes q goal (ns ++ n ∷ [])
  nodes-push ns n are is k d below =
      elim (cases_lt k (length ns)) [
        | inl earlier ↦
            subst (IsNode q goal k (ns ++ n ∷ [])) (sym (get_or_append_left ns (n ∷ []) d k earlier))
            (is-grown k ns (n ∷ []) (get_or ns k d) (omega arith) (are k d earlier))
        | inr last ↦
            let size : length (ns ++ n ∷ []) ≡ length ns + 1 = length-append ns (n ∷ []) in
            let e : length ns ≡ k = omega (arith, below, size, last) in
            subst (λ j. IsNode q goal j (ns ++ n ∷ []) (get_or (ns ++ n ∷ []) j d)) e
            (subst (IsNode q goal (length ns) (ns ++ n ∷ [])) (sym (get_or-append_seam ns n [] d))
            (is-grown (length ns) ns (n ∷ []) n (omega arith) is))
      ]

  pub node-at-is : (ns : List Node) (k : ℕ) → AreNodes q goal ns → k < length ns → IsNode q goal k ns (node_at ns k)
  node-at-is ns k are below = are k (record { cube = []; way = ways.Goal [] }) below

-- ---- the queue

all-insert : {X : Type 0} (P : X → Type 0) (xs : List X) (i : ℕ) (x : X) → All P xs → P x → All P (insert xs i x)
all-insert P xs i x all is = All-append P (take i xs) (x ∷ drop i xs) (All-take P i xs all) (All-cons P x (drop i xs) is (All-drop P i xs all))

pub due-put : (count top : ℕ) (o : Obligation) (old new : List Obligation) → IsPutIn o old new → All (IsDue count top) old → IsDue count top o
    → All (IsDue count top) new
due-put count top o old new put all is = subst (All (IsDue count top)) (sym put.is) (all-insert (IsDue count top) old put.place o all is)

pub due-more : (a b top : ℕ) (queue : List Obligation) → a ≤ b → All (IsDue a top) queue → All (IsDue b top) queue
due-more a b top queue within all =
    All-weaker (IsDue a top) (IsDue b top) (λ o is. record { node = omega (arith, is.node, within); level = is.level }) queue all

-- the last one is taken off
pub due-parts : (count top : ℕ) (old rest : List Obligation) (o : Obligation) → old ≡ rest ++ o ∷ [] → All (IsDue count top) old
    → All (IsDue count top) rest × IsDue count top o
due-parts count top old rest o is all =
    let whole : All (IsDue count top) (rest ++ o ∷ []) = subst (All (IsDue count top)) is all in
    let size : length (rest ++ o ∷ []) ≡ length rest + 1 = length-append rest (o ∷ []) in (
      λ k d below. subst (IsDue count top) (get_or_append_left rest (o ∷ []) d k below) (whole k d (omega (arith, size, below))),
      subst (IsDue count top) (get_or-append_seam rest o [] o) (whole (length rest) o (omega (arith, size))),
    )

-- ---- where they begin

-- what is found of a goal in the last frame
abbrev pub FirstOf : Stepping → Levels → ℕ → Goal → Option Node → Type 0
FirstOf st levels top (goals.State to) found = IsStateFirst to.now (frame_at levels top) found
FirstOf st levels top (goals.Literal literal avoid) found = IsLiteralFirst st top literal found

pub first-is : (st : Stepping) (levels : Levels) (top : ℕ) (goal : Goal) (found : Option Node) → Agree st.lemmas levels → IsGoalOf st goal
    → FirstOf st levels top goal found → IsFirst st.question goal levels top found
first-is st levels top (goals.State to) (Some n) agree of (is, allowed) = (
  λ k ns. subst (IsNode st.question (goals.State to) k ns) (sym is) (record {
    size = of.of;
    part = part_same (value_literals 0 to.now);
    way = (refl, refl);
  }),
  ap (allowed_by (frame_at levels top)) (ap node_state is) ∙ allowed,
)
first-is st levels top (goals.State to) None agree of none = none
first-is st levels top (goals.Literal literal avoid) (Some n) agree of (p, is, m, lifted) =
    let q : Question = st.question in
    let state : node_state n ≡ p.latches = ap way_state is in
    let meets : MeetsLiteral q literal avoid.now p = subst (λ a. MeetsLiteral q literal a p) of.avoids m.meets in
    let same : IsGoalLifted q.circuit q.view q.start avoid.now literal p n.cube = subst (λ a. IsGoalLifted q.circuit q.view q.start a literal p n.cube) of.avoids lifted in (
      λ k ns. record {
        size = ap length state ∙ m.meets.possible.position.latches;
        part = subst (λ s. is_part n.cube (value_literals 0 s) ≡ true) (sym state) lifted.part;
        way = subst (IsWayTo q (goals.Literal literal avoid) k ns n.cube) (sym is) (meets, same);
      },
      ap (allowed_by (frame_at levels top)) state ∙ (sym (agree top p.latches) ∙ m.frame),
    )
first-is st levels top (goals.Literal literal avoid) None agree of none = λ p meets.
    elim (cases_Bool (allowed_by (frame_at levels top) p.latches)) [
      | inl allowed ↦
          absurd (none p (record {
            meets = subst (λ a. MeetsLiteral st.question literal a p) (sym of.avoids) meets;
            frame = agree top p.latches ∙ allowed;
          }))
      | inr excluded ↦ excluded
    ]

-- what is met from a level on is met from each level above
meets-up : (lemmas : List Lemma) (k level : ℕ) (s : List Bool) → k ≤ level → meets_from lemmas k s ≡ true → meets_from lemmas level s ≡ true
meets-up [] k level s under h = refl
meets-up (lemma ∷ lemmas) k level s under h =
    let value : Bool = clause_value (values_of s) lemma.clause in
    let parts = and_parts (nat_lt lemma.level k || value) (meets_from lemmas k s) h in
    and_from (nat_lt lemma.level level || value) (meets_from lemmas level s)
    (elim (or_cases (nat_lt lemma.level k) value parts.0) [
      | inl less ↦
          let below : lemma.level < k = ltb-true lemma.level k less in
          or_left (nat_lt lemma.level level) value (lt-ltb lemma.level level (omega (arith, below, under)))
      | inr holds ↦ or_right (nat_lt lemma.level level) value holds
    ])
    (meets-up lemmas k level s under parts.1)

-- A position that meets the literal from a level on does from each level above.
pub last-first : (st : Stepping) (k top literal : ℕ) (p : Position) (n : Node) → k ≤ top → MeetsFrom st k literal p → n.way ≡ ways.Last p
    → IsGoalLifted st.question.circuit st.question.view st.question.start st.avoid literal p n.cube → IsLastFirst st top literal n
last-first st k top literal p n under meets is lifted =
    (p, is, record { meets = meets.meets; frame = meets-up st.lemmas k top p.latches under meets.frame }, lifted)

-- A step from a level up to this one into a part of the cube that was asked about.
pub before-is : (st : Stepping) (levels : Levels) (k below : ℕ) (into asked : List Lit) (p : Position) (l : Lifted) → k ≤ below
    → is_part into asked ≡ true → Agree st.lemmas levels → IsPredecessor st k asked p → l.position ≡ p
    → IsLifted st.question.circuit p into [] l.cube → IsBefore st.question levels below into l
before-is st levels k below into asked p l under part agree found is lifted =
    let c : Circuit = st.question.circuit in
    let frame : allowed_by (frame_at levels k) p.latches ≡ true = sym (agree k p.latches) ∙ found.frame in
    record {
      arena = subst (IsArenaStep st.question) (sym is) found.step;
      inside =
          ap (λ x. cube_value (values_of (successor c x)) into) is
          ∙ part_true (values_of (successor c p)) into asked part found.inside;
      frame = ap (λ (x : Position). allowed_by (frame_at levels below) x.latches) is ∙ grow_on levels below k p.latches under frame;
      lifted = subst (λ x. IsLifted c x into [] l.cube) (sym is) lifted;
    }

state-last : (ns : List Node) (n : Node) → state_at (ns ++ n ∷ []) (length ns) ≡ node_state n
state-last ns n = ap node_state (get_or-append_seam ns n [] (record { cube = []; way = ways.Goal [] }))

-- the obligation of a node that was put in
open-new : (top : ℕ) (levels : Levels) (ns new : List Node) (n : Node) (level : ℕ) → new ≡ ns ++ n ∷ [] → level ≤ top
    → allowed_by (frame_at levels level) (node_state n) ≡ true → IsOpen top levels new (record { node = length ns; level = level })
open-new top levels ns new n level made within allowed = record {
  due = record { node = let size : length new ≡ length ns + 1 = ap length made ∙ length-append ns (n ∷ []) in omega (arith, size); level = within };
  frame = ap (allowed_by (frame_at levels level)) (ap (λ all. state_at all (length ns)) made ∙ state-last ns n) ∙ allowed;
}

-- A node of the goal was put in.
pub begun-nodes : (q : Question) (goal : Goal) (levels : Levels) (top : ℕ) (ns new : List Node) (n : Node) → IsFirst q goal levels top (Some n)
    → AreNodes q goal ns → new ≡ ns ++ n ∷ [] → AreNodes q goal new
begun-nodes q goal levels top ns new n first are made = subst (AreNodes q goal) (sym made) (nodes-push q goal ns n are (first.0 (length ns) ns))

pub begun-next : (q : Question) (goal : Goal) (levels : Levels) (top : ℕ) (ns new : List Node) (n : Node) (k : ℕ) → IsFirst q goal levels top (Some n)
    → new ≡ ns ++ n ∷ [] → k ≡ length ns → IsOpen top levels new (record { node = k; level = top })
begun-next q goal levels top ns new n k first made is =
    subst (λ j. IsOpen top levels new (record { node = j; level = top })) (sym is) (open-new top levels ns new n top made (omega arith) first.1)

pub more-nodes : (ns new : List Node) (n : Node) → new ≡ ns ++ n ∷ [] → length ns ≤ length new
more-nodes ns new n made = let size : length new ≡ length ns + 1 = ap length made ∙ length-append ns (n ∷ []) in omega (arith, size)

-- ---- one level down

-- what is kept of one level
pub kept-are : (q : Question) (goal : Goal) (top below : ℕ) (before after : Levels) (old new : Obligations) (at : Obligation) (found : Option Lifted)
    (outcome : ConsecutionEnd) → AreObligations q goal top old → IsDue (length old.nodes.items) top at → IsPutIn at old.queue.items new.queue.items
    → TellsConsecution q before after below (cube_at old.nodes.items at.node) found
    → IsKeptWith old.nodes.items new.nodes.items at below found outcome → AreObligations q goal top new
kept-are q goal top below before after old new at None outcome are due put is (same, e) = record {
  nodes = subst (AreNodes q goal) (sym same) are.nodes;
  due =
      subst (λ ns. All (IsDue (length ns) top) new.queue.items) (sym same)
      (due-put (length old.nodes.items) top at old.queue.items new.queue.items put are.due due);
}
kept-are q goal top below before after old new at (Some l) outcome are due put (found, stay) (made, e) = record {
  nodes =
      subst (AreNodes q goal) (sym made)
      (nodes-push q goal old.nodes.items (record { cube = l.cube; way = ways.Step l.position at.node }) are.nodes (record {
        size = found.arena.possible.position.latches;
        part = found.lifted.part;
        way = (due.node, found.arena, found.inside, found.lifted);
      }));
  due =
      due-more (length old.nodes.items) (length new.nodes.items) top new.queue.items
      (more-nodes old.nodes.items new.nodes.items (record { cube = l.cube; way = ways.Step l.position at.node }) made)
      (due-put (length old.nodes.items) top at old.queue.items new.queue.items put are.due due);
}
