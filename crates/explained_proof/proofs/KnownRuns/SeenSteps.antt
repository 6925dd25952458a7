-- A step of the stack machine is one by a letter of its kind: the number of open calls tells which.
use Rattle.std.proofs.Common.{◌≡◌, ◌∙◌, ℕ, suc, ℤ, List, [], ◌∷◌, length, inl, inr, refl, sym, ap, subst, arith}
use Rattle.std.specs.List.{AllByRecursion}
use Rattle.std.proofs.lemmas.List.{length-map}
use Rattle.nwa_base.specs.declared.letters.Kind.{Kind}
use Rattle.nwa_base.specs.declared.letters.Kind.TheVariants as kinds
use Rattle.nwa_base.specs.declared.letters.Letter.{Letter}
use Rattle.nwa_base.specs.Members.{Member}
use Rattle.typed_tree.specs.TypedTree.{TypedProgram}
use Rattle.letter_acts.specs.Acts.{act_of}
use Rattle.letter_acts.specs.Meaning.{Situation, ActInside, ActCalls, ActReturns}
use Rattle.letter_acts.specs.Ways.{Leads}
use Rattle.letter_acts.specs.Feasible.{machine}
use Rattle.boogie_run.specs.BoogiePoints.Points.{Point}
use Rattle.boogie_run.specs.BoogiePlaces.Places.{number_of}
use Rattle.boogie_run.specs.Configurations.{Frame, Config}
use Rattle.lowered_graph.specs.LoweredSteps.ProgramFrames.{shown}
use Rattle.lowered_graph.specs.LoweredSteps.Stacks.{Pending, Stack, IsStep}
use Rattle.lowered_graph.specs.LoweredSteps.Moves.{BelowIsGood, IsGood, shown_stack, shown_below}
use Rattle.lowered_graph.specs.LoweredImports.KnownPoints.{IsPointOf}
use Rattle.lowered_graph.specs.Lowered.{lowered}
use Rattle.lowered_graph.proofs.Alphabet.{letters_of}
use Rattle.lowered_graph.proofs.KnownPlaces.{IsKnown}
use Rattle.lowered_graph.proofs.Joined.{seen, pended, stacked, IsKnownStack, step_seen}
use Rattle.explained_proof.specs.KnownRuns.Reached.{situation}

pub record IsInside (t : TypedProgram) (c d : ℕ × Situation) : Type 0 where
  pub letter : Letter
  pub edge : Member (lowered t).automaton.insides (c.0, letter, d.0)
  pub act : ActInside (letters_of t) (act_of (letters_of t) letter) c.1 d.1

pub record IsCall (t : TypedProgram) (c d : ℕ × Situation) : Type 0 where
  pub letter : Letter
  pub edge : Member (lowered t).automaton.calls (c.0, letter, d.0)
  pub act : ActCalls (letters_of t) (act_of (letters_of t) letter) c.1 d.1

pub record IsReturn (t : TypedProgram) (c b d : ℕ × Situation) : Type 0 where
  pub letter : Letter
  pub kind : letter.kind ≡ kinds.Back
  pub edge : Member (lowered t).automaton.backs (c.0, b.0, letter, d.0)
  pub act : ActReturns (letters_of t) (act_of (letters_of t) letter) c.1 b.1 d.1

module _ (t : TypedProgram) where
  abbrev By : Kind → Letter → List (ℕ × Situation) → ℕ × Situation → ℕ × Situation → List (ℕ × Situation) → Type 0
  By kind a before c d after = Leads (machine (lowered t).automaton (letters_of t)) kind a before c d (λ s. s ≡ after)

  inside_by : (kind : Kind) (a : Letter) (before after : List (ℕ × Situation)) (c d : ℕ × Situation) → length before ≡ length after → By kind a before c d after → IsInside t c d
  inside_by kinds.Inside a before after c d l h = record { letter = a; edge = h.0.0; act = h.0.1 }
  inside_by kinds.Call a before after c d l h = let e : suc (length before) ≡ length after = ap length h.1 in absurd (omega arith)
  inside_by kinds.Back a [] after c d l h = absurd h
  inside_by kinds.Back a (b ∷ before) after c d l h = let e : length before ≡ length after = ap length h.1 in absurd (omega arith)

  call_by : (kind : Kind) (a : Letter) (before after : List (ℕ × Situation)) (c d : ℕ × Situation) → suc (length before) ≡ length after → By kind a before c d after → IsCall t c d
  call_by kinds.Inside a before after c d l h = let e : length before ≡ length after = ap length h.1 in absurd (omega arith)
  call_by kinds.Call a before after c d l h = record { letter = a; edge = h.0.0; act = h.0.1 }
  call_by kinds.Back a [] after c d l h = absurd h
  call_by kinds.Back a (b ∷ before) after c d l h = let e : length before ≡ length after = ap length h.1 in absurd (omega arith)

  return_by : (kind : Kind) (a : Letter) → a.kind ≡ kind → (b : ℕ × Situation) (before after : List (ℕ × Situation)) (c d : ℕ × Situation) → length before ≡ length after → By kind a (b ∷ before) c d after → IsReturn t c b d
  return_by kinds.Inside a k b before after c d l h = let e : suc (length before) ≡ length after = ap length h.1 in absurd (omega arith)
  return_by kinds.Call a k b before after c d l h = let e : suc (suc (length before)) ≡ length after = ap length h.1 in absurd (omega arith)
  return_by kinds.Back a k b before after c d l h = record { letter = a; kind = k; edge = h.0.0; act = h.0.1 }

  -- ---- stacks

  inside_seen : (x y : Stack) → IsKnownStack t x → IsStep t x y → length x.below ≡ length y.below → IsInside t (seen t x) (seen t y)
  inside_seen x y k h l =
      let s = step_seen t x y k h in
      inside_by s.0.kind s.0 (stacked t x.below) (stacked t y.below) (seen t x) (seen t y) (length-map x.below (pended t) ∙ l ∙ sym (length-map y.below (pended t))) s.1

  call_seen : (x y : Stack) → IsKnownStack t x → IsStep t x y → suc (length x.below) ≡ length y.below → IsCall t (seen t x) (seen t y)
  call_seen x y k h l =
      let s = step_seen t x y k h in
      call_by s.0.kind s.0 (stacked t x.below) (stacked t y.below) (seen t x) (seen t y) (ap suc (length-map x.below (pended t)) ∙ l ∙ sym (length-map y.below (pended t))) s.1

  return_seen : (x y : Stack) (b : Pending) (rest : List Pending) → IsKnownStack t x → IsStep t x y → x.below ≡ b ∷ rest → length rest ≡ length y.below → IsReturn t (seen t x) (pended t b) (seen t y)
  return_seen x y b rest k h e l =
      let s = step_seen t x y k h in
      return_by s.0.kind s.0 refl (pended t b) (stacked t rest) (stacked t y.below) (seen t x) (seen t y) (length-map rest (pended t) ∙ l ∙ sym (length-map y.below (pended t)))
      (subst (λ (bs : List Pending). By s.0.kind s.0 (stacked t bs) (seen t x) (seen t y) (stacked t y.below)) e s.1)

  -- ---- configurations

  known_of : (n : ℕ) (p : Point) → IsPointOf t n p → IsKnown t n p
  known_of n p k = record { procedure = k.procedure; body = k.body; is = k.is; has_body = k.has; stands = elim k.among [ inl h ↦ inr h | inr h ↦ inl h ] }

  below_known : (f : Frame) (bs : List Frame) → BelowIsGood t (IsPointOf t) f bs → AllByRecursion (λ b. IsKnown t b.proc b.point) (shown_below t f.entry bs)
  below_known f [] g = tt
  below_known f (b ∷ bs) g = (known_of b.proc b.point g.0.known, below_known b bs g.2)

  stack_known : (c : Config) → IsGood t (IsPointOf t) c → IsKnownStack t (shown_stack t c)
  stack_known c g = record { spot = known_of c.top.proc c.top.point g.top.known; below = below_known c.top c.below g.below }

  below_length : (gs : List ℤ) (bs : List Frame) → length (shown_below t gs bs) ≡ length bs
  below_length gs [] = refl
  below_length gs (b ∷ bs) = ap suc (below_length b.entry bs)

  -- what is seen of a frame, where the constants and globals are these
  abbrev pub frame_seen : List ℤ → Frame → ℕ × Situation
  frame_seen gs f = (number_of t (record { proc = f.proc; point = f.point }), situation t f.proc (record { globals = gs; old = f.entry; locals = f.locals }))

  abbrev pub top_seen : Config → ℕ × Situation
  top_seen c = frame_seen c.globals c.top

  pub inside_of : (c d : Config) → IsGood t (IsPointOf t) c → IsStep t (shown_stack t c) (shown_stack t d) → d.below ≡ c.below → IsInside t (top_seen c) (top_seen d)
  inside_of c d g h e = inside_seen (shown_stack t c) (shown_stack t d) (stack_known c g) h (below_length c.top.entry c.below ∙ ap length (sym e) ∙ sym (below_length d.top.entry d.below))

  pub call_of : (c d : Config) → IsGood t (IsPointOf t) c → IsStep t (shown_stack t c) (shown_stack t d) → d.below ≡ c.top ∷ c.below → IsCall t (top_seen c) (top_seen d)
  call_of c d g h e = call_seen (shown_stack t c) (shown_stack t d) (stack_known c g) h (ap suc (below_length c.top.entry c.below) ∙ ap length (sym e) ∙ sym (below_length d.top.entry d.below))

  pub return_of : (c d : Config) (b : Frame) (rest : List Frame) → IsGood t (IsPointOf t) c → IsStep t (shown_stack t c) (shown_stack t d) → c.below ≡ b ∷ rest → d.below ≡ rest →
      IsReturn t (top_seen c) (frame_seen c.top.entry b) (top_seen d)
  return_of c d b rest g h e k =
      return_seen (shown_stack t c) (shown_stack t d) (record { proc = b.proc; point = b.point; values = shown t (record { globals = c.top.entry; old = b.entry; locals = b.locals }) }) (shown_below t b.entry rest)
      (stack_known c g) h (ap (shown_below t c.top.entry) e) (below_length b.entry rest ∙ ap length (sym k) ∙ sym (below_length d.top.entry d.below))
