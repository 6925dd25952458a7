-- What is asserted behind the labels of a body is what holds at the places where runs stand there, and true whenever one does.
use Rattle.std.proofs.Common.{◌≡◌, ◌∙◌, ℕ, ◌+◌, Bool, true, false, List, [], ◌++◌, length, Option, None, Some, refl, sym, ap, subst, IsTrue, Contains, append-nil}
use Rattle.std.specs.Prelude.{◌&&◌, not, slice_get, if◌then◌else◌}
use Rattle.std.specs.List.{list_all}
use Rattle.std.proofs.lemmas.Bool.{and_parts}
use Rattle.std.proofs.lemmas.Option.{slice_get_within, get_or_from_slice_get}
use Rattle.boogie_tree.specs.declared.tree.Name.{Name}
use Rattle.boogie_tree.specs.Tree as tree
use Rattle.boogie_tree.specs.Tree.{Expression, ProcedureBody, Declaration}
use Rattle.typed_tree.specs.TypedTree.{TypedBlock, TypedProcedure, TypedProgram}
use Rattle.typed_tree.specs.Scope.{body_scope, axiom_scope}
use Rattle.typed_tree.specs.TypingRules.Counts.{numbers_fit}
use Rattle.typed_tree.specs.TypingRules.Rules.{Context, is_member, own_labels, within, context_of, is_block, is_condition, is_specification, is_body_if_any, procedure_keeps_rules, keeps_typing}
use Rattle.typed_tree.specs.TypingRules.Shape.{block_labels, counts_from, has_shape}
use Rattle.typed_tree.specs.TypingRules.ValidProgram.{has_entry, is_typed, is_valid}
use Rattle.typed_tree.proofs.TypingRules.ValidLaws.{all_member}
use Rattle.typed_tree.proofs.TypingRules.ValidLaws as valid_laws
use Rattle.boogie_types.specs.Resolved.{body_place}
use Rattle.boogie_run.specs.BoogiePoints.Points.{Todo, found_block}
use Rattle.boogie_run.specs.BoogiePoints.Actions.{free_conditions, first_assertion, first_place}
use Rattle.boogie_run.specs.BoogiePlaces.Places.{number_of, first_at}
use Rattle.boogie_run.specs.Configurations.{Config}
use Rattle.proof_form.specs.Annotations.{Content}
use Rattle.proof_names.specs.Outlines.{Sketch}
use Rattle.explained_proof.specs.KnownRuns.Reached.{IsReached}
use Rattle.explained_proof.specs.KnownRuns.Followed.{IsProofOf}
use Rattle.explained_proof.specs.declared.row_expressions.scopes.Position.TheVariants as positions
use Rattle.explained_proof.specs.Backwards.{no_labels, passing_all}
use Rattle.explained_proof.specs.Clauses.{holding}
use Rattle.explained_proof.specs.Statements.{Setting, left, first_breaks_to, explained_block}
use Rattle.explained_proof.specs.Explained.{Told, explained_body}
use Rattle.explained_proof.specs.ExplainedRuns.Laws.{AreTrue, text_locals, place_at}
use Rattle.explained_proof.specs.ExplainedRuns.Laws as laws
use Rattle.explained_proof.specs.ExplainedRuns.Sited.{labels_of, landing, AreAssertedAt, said_behind, setting_of, IsBody, LabelsAreTold, AssertionsHold}
use Rattle.explained_proof.proofs.ExplainedRuns.LabelWalk.{Count, count, IsSaid, block_walks, asserted_weaker}
use Rattle.explained_proof.proofs.ExplainedRuns.Sited.{body_named, body_number, explained_is, body_holds}

contained : {X : Type 0} (xs : List X) (n : ℕ) (x : X) → slice_get xs n ≡ Some x → Contains xs x
contained xs n x e = (n, slice_get_within xs n x e, get_or_from_slice_get xs n x x e)

module _ (t : TypedProgram) (n : ℕ) (q : TypedProcedure) (x : TypedBlock) (valid : IsTrue (is_valid t)) (procedure : slice_get t.procs n ≡ Some q) (body : q.body ≡ Some x) where
  abbrev own : Context
  own = within (context_of t.globals t.procs q) x

  -- the statements of a body keep the typing rules
  kept : is_block own x ≡ true
  kept =
      let a = and_parts (is_typed t) (numbers_fit t) valid in
      let b = and_parts (has_shape t) (keeps_typing t && has_entry t) a.0 in
      let c = and_parts (keeps_typing t) (has_entry t) b.1 in
      let d = and_parts (list_all (is_condition (axiom_scope t.globals)) t.axioms) (list_all (procedure_keeps_rules t.globals t.procs) t.procs) c.0 in
      let e = all_member (procedure_keeps_rules t.globals t.procs) t.procs q (contained t.procs n q procedure) d.1 in
      let f = and_parts (list_all (is_specification t.globals q) q.specs) (is_body_if_any (context_of t.globals t.procs q) q.body) e in
      sym (ap (λ (o : Option TypedBlock). is_body_if_any (context_of t.globals t.procs q) o) body) ∙ f.1

  counted : (e : ℕ) × Count x 0 e × (counts_from e [] ≡ true)
  counted =
      let h : counts_from 0 (block_labels x) ≡ true = valid_laws.labels t q x valid (contained t.procs n q procedure) body in
      count x 0 [] (ap (counts_from 0) (append-nil (block_labels x)) ∙ h)

  abbrev pub first : ℕ
  first = first_assertion t.procs n

  abbrev pub start : ℕ
  start = first_place t n + length (free_conditions q.specs)

  abbrev pub found : ℕ → Option (List Todo)
  found k = found_block t.procs k x false first start []

  no_more : (k : ℕ) → is_member k (own_labels x ++ []) ≡ true → is_member k (own_labels x) ≡ true
  no_more k h = ap (is_member k) (sym (append-nil (own_labels x))) ∙ h

  pub walked : (ds : List Declaration) (b : ProcedureBody) (i : IsBody ds t n b q x) (w : Setting) → w.procs ≡ t.procs → w.backwards ≡ (passing_all x no_labels).backwards →
      AreAssertedAt w (IsSaid w found) (block_labels x) (labels_of b.stmts) (labels_of (explained_block w b.stmts (left x start)))
  walked ds b i w e f =
      let finds : (k : ℕ) → found k ≡ found_block w.procs k x false first start [] = (λ k. ap (λ ps. found_block ps k x false first start []) (sym e)) in
      block_walks w found (body_place ds i.given b) None 0 b.stmts x (body_named ds t n b q x i) 0 counted.0 false first start [] own no_labels (record {
        counted = counted.1;
        finds = λ k low high. finds k;
        kept = kept;
        own = λ k low high h. no_more k h;
        fresh = λ k low. (refl, refl);
        total = λ k low high h. sym (ap (λ (g : ℕ → Bool). g k) f) ∙ h;
      })

-- ---- laws

module _ (ds : List Declaration) (t : TypedProgram) (a : Content) (s : Sketch) (n : ℕ) (b : ProcedureBody) (q : TypedProcedure) (x : TypedBlock) (valid : IsTrue (is_valid t)) (i : IsBody ds t n b q x) where
  abbrev w : Setting
  w = setting_of t a s n q x

  abbrev Said : ℕ → Name × tree.Block → List Expression → Type 0
  Said = IsSaid (setting_of t a s n q x) (found t n q x valid i.procedure i.body)

  -- what holds of all that is said holds of what is asserted
  labels_all : (P : ℕ → Name × tree.Block → List Expression → Type 0) → ((k : ℕ) (y : Name × tree.Block) (es : List Expression) → Said k y es → P k y es) →
      AreAssertedAt w P (block_labels x) (labels_of b.stmts) (labels_of (explained_body (laws.told t a s) n q b).stmts)
  labels_all P f =
      let d : Told = laws.told t a s in
      let at : ℕ = first_place t n + length (free_conditions q.specs) in
      subst (λ (c : tree.Block). AreAssertedAt w P (block_labels x) (labels_of b.stmts) (labels_of c)) (sym (explained_is t n q x i.procedure i.body d b refl refl))
      (asserted_weaker w Said P f (block_labels x) (labels_of b.stmts) (labels_of (explained_block w b.stmts (left x at))) (walked t n q x valid i.procedure i.body ds b i w refl refl))

  -- the number of the place is the one that is counted
  numbered : (k : ℕ) (y : Name × tree.Block) (es : List Expression) → Said k y es → es ≡ said_behind w k y (number_of t (record { proc = n; point = landing t n q x k }))
  numbered k y es h = h.1 ∙ by (w.backwards k) refl
    where
      by : (v : Bool) → w.backwards k ≡ v →
          (if v && not (first_breaks_to y.0.text y.1) then holding w.procedure positions.Body (first_at (landing t n q x k).todo + (landing t n q x k).part) else [])
          ≡ (if v && not (first_breaks_to y.0.text y.1) then holding w.procedure positions.Body (number_of t (record { proc = n; point = landing t n q x k })) else [])
      by false v = refl
      by true v =
          ap (λ (m : ℕ). if not (first_breaks_to y.0.text y.1) then holding w.procedure positions.Body m else []) (sym (body_number t n q x i.procedure i.body (landing t n q x k) (h.0 v)))

  -- nothing is said, or what holds at a point of the body
  true_there : IsProofOf t a s → (k : ℕ) (y : Name × tree.Block) (es : List Expression) → Said k y es →
      (c : Config) → IsReached t c → c.top.proc ≡ n → c.top.point ≡ landing t n q x k → AreTrue (body_scope t.globals (text_locals q.locals)) c es
  true_there proof k y es h c reached here stands = by (w.backwards k) refl (first_breaks_to y.0.text y.1) h.1
    where
      by : (v : Bool) → w.backwards k ≡ v → (u : Bool) →
          es ≡ (if v && not u then holding w.procedure positions.Body (first_at (landing t n q x k).todo + (landing t n q x k).part) else []) → AreTrue (body_scope t.globals (text_locals q.locals)) c es
      by false v u e = subst (AreTrue (body_scope t.globals (text_locals q.locals)) c) (sym e) tt
      by true v true e = subst (AreTrue (body_scope t.globals (text_locals q.locals)) c) (sym e) tt
      by true v false e = body_holds ds t a s n b q x valid proof i (landing t n q x k) es (h.0 v) e c reached here stands

pub labels_are_told : LabelsAreTold
labels_are_told ds t a s n b q x valid i =
    labels_all ds t a s n b q x valid i (λ k y es. es ≡ said_behind (setting_of t a s n q x) k y (number_of t (record { proc = n; point = landing t n q x k }))) (numbered ds t a s n b q x valid i)

pub assertions_hold : AssertionsHold
assertions_hold ds t a s n b q x valid proof i =
    labels_all ds t a s n b q x valid i
    (λ k y es. (c : Config) → IsReached t c → c.top.proc ≡ n → c.top.point ≡ landing t n q x k → AreTrue (body_scope t.globals (text_locals q.locals)) c es)
    (true_there ds t a s n b q x valid i proof)
