-- Where the machine and the rules agree about the start, each statement and each return, they agree about whole runs.
use Rattle.std.proofs.Common.{◌≡◌, ◌⊎◌, ⊎_elim, ℕ, zero, suc, ◌+◌, ◌≤◌, ℤ, Bool, false, List, [], ◌∷◌, length, Option, refl, ap, sym, ◌∙◌, subst, add-zero, arith}
use Rattle.boogie_tree.specs.declared.tree.Column.{Column}
use Rattle.typed_tree.specs.TypedTree.{TypedStatement, Label, TypedBlock, Empty, Then, TypedProgram}
use Rattle.boogie_run.specs.BoogiePoints.Points.{Todo, unless_ended, settled}
use Rattle.boogie_run.specs.BoogiePoints.Stacks.{is_label}
use Rattle.boogie_run.specs.Configurations.{Config}
use Rattle.boogie_run.specs.Steps.{Failed, moved_to, start}
use Rattle.boogie_run.specs.Runs.{run, ChoicesFail}
use Rattle.boogie_run.specs.RunRules.Moments.{OpenBlock, Activation, Moment}
use Rattle.boogie_run.specs.RunRules.Steps.{BlocksLead, FailsBy}
use Rattle.boogie_run.specs.RunRules.Runs.{Begins, Leads, Fails}
use Rattle.boogie_run.specs.RunRules.Ties.Mirrors.{pendings, moment_of, IsFull, WaitAll, Mirrors}
use Rattle.boogie_run.specs.RunRules.Ties.Stretches.{FailsFrom, ReachesFailure}
use Rattle.boogie_run.specs.RunRules.Ties.Scenes.{ReachesMirror, GoesOnWhere, Scene, SceneHolds, StatementAgrees, ReturnAgrees, StartAgrees}
use Rattle.boogie_run.proofs.RunRules.Stretches.{reaches_fails}

-- the machine and the rules agree about the start, about each return and about each statement but labels
pub record Agrees (t : TypedProgram) : Type 0 where
  pub starts : StartAgrees t
  pub returns : (v : Config) (targets : List Column) (below : List Activation) → WaitAll t v.below targets below → IsFull t v → ReturnAgrees t v targets below
  pub statements : (sc : Scene) (s : TypedStatement) (b : TypedBlock) → SceneHolds t sc → is_label s ≡ false → StatementAgrees t sc s b

-- from a moment steps lead to one that may fail assertion n
pub record FailsAfter (t : TypedProgram) (m : Moment) (n : ℕ) : Type 0 where
  pub steps : ℕ
  pub last : Moment
  pub leads : Leads t steps m last
  pub fails : FailsBy t last last.top.pending n

fails_now : (t : TypedProgram) (m : Moment) (n : ℕ) → FailsBy t m m.top.pending n → FailsAfter t m n
fails_now t m n f = record { steps = 0; last = m; leads = refl; fails = f }

one_more : (t : TypedProgram) (m d : Moment) (n : ℕ) → BlocksLead t m m.top.pending d → FailsAfter t d n → FailsAfter t m n
one_more t m d n l f = record { steps = suc f.steps; last = f.last; leads = (d, l, f.leads); fails = f.fails }

module _ (t : TypedProgram) (agrees : Agrees t) where
  -- ---- where the machine stands among blocks

  module _ (v : Config) (targets : List Column) (below : List Activation) (waits : WaitAll t v.below targets below) (full : IsFull t v) where
    -- ---- from the rules to the machine

    stays : (c : Config) (x : Moment) (todo : List Todo) → c ≡ moved_to v (settled todo) → x ≡ moment_of v targets below (pendings todo) → ReachesMirror t c x
    stays c x todo e h =
        (c, ([], refl), record { values = v; todo = todo; targets = targets; below = below; config = e; moment = h; waits = waits; full = full })

    block_leads : (b : TypedBlock) (of_loop : Bool) (id place : ℕ) (under : List Todo) (x : Moment) →
        BlocksLead t (moment_of v targets below (record { rest = b; of_loop = of_loop; id = id } ∷ pendings under)) (record { rest = b; of_loop = of_loop; id = id } ∷ pendings under) x →
        ReachesMirror t (moved_to v (unless_ended b of_loop id place under (settled under))) x
    block_leads Empty of_loop id place under x h = stays _ x under refl h
    block_leads (Then (Label n) b) of_loop id place under x h =
        stays _ x (record { rest = b; of_loop = of_loop; id = id + 0; at = place } ∷ under) (ap (λ (k : ℕ). moved_to v (unless_ended b of_loop k place under (settled under))) (sym (add-zero id))) h
    block_leads (Then s b) of_loop id place under x h =
        (agrees.statements (record { values = v; of_loop = of_loop; id = id; place = place; under = under; targets = targets; below = below }) s b (record { waits = waits; full = full }) refl).leads x h

    pub todo_leads : (todo : List Todo) (x : Moment) → BlocksLead t (moment_of v targets below (pendings todo)) (pendings todo) x → ReachesMirror t (moved_to v (settled todo)) x
    todo_leads [] x h = (agrees.returns v targets below waits full).leads x h
    todo_leads (d ∷ under) x h = block_leads d.rest d.of_loop d.id d.at under x h

    block_fails : (b : TypedBlock) (of_loop : Bool) (id place : ℕ) (under : List Todo) (n : ℕ) →
        FailsBy t (moment_of v targets below (record { rest = b; of_loop = of_loop; id = id } ∷ pendings under)) (record { rest = b; of_loop = of_loop; id = id } ∷ pendings under) n →
        ReachesFailure t (moved_to v (unless_ended b of_loop id place under (settled under))) n
    block_fails Empty of_loop id place under n h = absurd h
    block_fails (Then (Label k) b) of_loop id place under n h = absurd h
    block_fails (Then s b) of_loop id place under n h =
        (agrees.statements (record { values = v; of_loop = of_loop; id = id; place = place; under = under; targets = targets; below = below }) s b (record { waits = waits; full = full }) refl).fails n h

    pub todo_fails : (todo : List Todo) (n : ℕ) → FailsBy t (moment_of v targets below (pendings todo)) (pendings todo) n → ReachesFailure t (moved_to v (settled todo)) n
    todo_fails [] n h = (agrees.returns v targets below waits full).fails n h
    todo_fails (d ∷ under) n h = block_fails d.rest d.of_loop d.id d.at under n h

    -- ---- from the machine to the rules

    module _ (n bound : ℕ) (later : (c : Config) (m : Moment) → Mirrors t c m → FailsFrom t c n bound → FailsAfter t m n) (choices : List (Option ℤ)) (most : length choices ≤ suc bound) where
      -- what may fail at once, or goes on
      either_fails : (ps : List OpenBlock) → (FailsBy t (moment_of v targets below ps) ps n ⊎ GoesOnWhere t (BlocksLead t (moment_of v targets below ps) ps) n bound) →
          FailsAfter t (moment_of v targets below ps) n
      either_fails ps h =
          ⊎_elim (λ f. fails_now t (moment_of v targets below ps) n f)
          (λ g. one_more t (moment_of v targets below ps) g.moment n g.leads (later g.config g.moment g.mirrors g.fails)) h

      block_sound : (b : TypedBlock) (of_loop : Bool) (id place : ℕ) (under : List Todo) → (run t (moved_to v (settled under)) choices ≡ Failed n → FailsAfter t (moment_of v targets below (pendings under)) n) →
          run t (moved_to v (unless_ended b of_loop id place under (settled under))) choices ≡ Failed n →
          FailsAfter t (moment_of v targets below (record { rest = b; of_loop = of_loop; id = id } ∷ pendings under)) n
      block_sound Empty of_loop id place under after h =
          one_more t (moment_of v targets below (record { rest = Empty; of_loop = of_loop; id = id } ∷ pendings under)) (moment_of v targets below (pendings under)) n refl (after h)
      block_sound (Then (Label k) b) of_loop id place under after h =
          one_more t (moment_of v targets below (record { rest = Then (Label k) b; of_loop = of_loop; id = id } ∷ pendings under))
          (moment_of v targets below (record { rest = b; of_loop = of_loop; id = id + 0 } ∷ pendings under)) n refl
          (block_sound b of_loop (id + 0) place under after
          (ap (λ (i : ℕ). run t (moved_to v (unless_ended b of_loop i place under (settled under))) choices) (add-zero id) ∙ h))
      block_sound (Then s b) of_loop id place under after h =
          either_fails (record { rest = Then s b; of_loop = of_loop; id = id } ∷ pendings under)
          ((agrees.statements (record { values = v; of_loop = of_loop; id = id; place = place; under = under; targets = targets; below = below }) s b (record { waits = waits; full = full }) refl).sound n bound choices most h)

      pub todo_sound : (todo : List Todo) → run t (moved_to v (settled todo)) choices ≡ Failed n → FailsAfter t (moment_of v targets below (pendings todo)) n
      todo_sound [] h = either_fails [] ((agrees.returns v targets below waits full).sound n bound choices most h)
      todo_sound (d ∷ under) h = block_sound d.rest d.of_loop d.id d.at under (todo_sound under) h

  -- ---- runs

  -- a step by the rules is one of the machine, or several
  step_leads : (c : Config) (m x : Moment) → Mirrors t c m → BlocksLead t m m.top.pending x → ReachesMirror t c x
  step_leads c m x h l =
      subst (λ (d : Config). ReachesMirror t d x) (sym h.config)
      (todo_leads h.values h.targets h.below h.waits h.full h.todo x (subst (λ (k : Moment). BlocksLead t k k.top.pending x) h.moment l))

  step_fails : (c : Config) (m : Moment) (n : ℕ) → Mirrors t c m → FailsBy t m m.top.pending n → ReachesFailure t c n
  step_fails c m n h f =
      subst (λ (d : Config). ReachesFailure t d n) (sym h.config)
      (todo_fails h.values h.targets h.below h.waits h.full h.todo n (subst (λ (k : Moment). FailsBy t k k.top.pending n) h.moment f))

  all_lead : (k : ℕ) (c : Config) (m last : Moment) (n : ℕ) → Mirrors t c m → Leads t k m last → FailsBy t last last.top.pending n → ReachesFailure t c n
  all_lead zero c m last n h l f = step_fails c m n h (subst (λ (x : Moment). FailsBy t x x.top.pending n) (sym l) f)
  all_lead (suc k) c m last n h l f =
      let r : ReachesMirror t c l.0 = step_leads c m l.0 h l.1 in
      reaches_fails t c r.0 n r.1 (all_lead k r.0 l.0 last n r.2 l.2 f)

  none_fails : (c : Config) (choices : List (Option ℤ)) (n : ℕ) → length choices ≤ 0 → run t c choices ≡ Failed n → ⊥
  none_fails c [] n most h = cc
  none_fails c (o ∷ os) n most h = omega arith

  -- a failure of the machine is one by the rules
  all_sound : (bound n : ℕ) (c : Config) (m : Moment) → Mirrors t c m → FailsFrom t c n bound → FailsAfter t m n
  all_sound zero n c m h f = absurd (none_fails c f.choices n f.most f.fails)
  all_sound (suc bound) n c m h f =
      subst (λ (x : Moment). FailsAfter t x n) (sym h.moment)
      (todo_sound h.values h.targets h.below h.waits h.full n bound (all_sound bound n) f.choices f.most h.todo
      (subst (λ (d : Config). run t d f.choices ≡ Failed n) h.config f.fails))

  pub by_rules : (n : ℕ) → ChoicesFail t n → Fails t n
  by_rules n h =
      let g : GoesOnWhere t (λ (m : Moment). Begins t m) n (length h.0) = agrees.starts.sound n h.0 h.1 in
      let f : FailsAfter t g.moment n = all_sound (length h.0) n g.config g.moment g.mirrors g.fails in
      record { steps = f.steps; first = g.moment; last = f.last; begins = g.leads; leads = f.leads; fails = f.fails }

  pub by_machine : (n : ℕ) → Fails t n → ChoicesFail t n
  by_machine n h =
      let r : ReachesMirror t (start t) h.first = agrees.starts.leads h.first h.begins in
      reaches_fails t (start t) r.0 n r.1 (all_lead h.steps r.0 h.first h.last n r.2 h.leads h.fails)
