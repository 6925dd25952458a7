-- A point that meets the rows of an accepted word reads as frame states that obey it.
use Rattle.std.proofs.Common.{◌≡◌, ◌≢◌, ◌∙◌, ◌⊎◌, ℕ, suc, ◌<◌, ℤ, List, [], ◌∷◌, length, Option, Some, refl, sym, ap, subst, inl, inr}
use Rattle.std.specs.Prelude.{map, slice_get}
use Rattle.std.specs.List.{AllByRecursion}
use Rattle.lin_rows.specs.Rows.{LinearRow, Holds}
use Rattle.nwa_base.specs.declared.letters.Kind.{Kind}
use Rattle.nwa_base.specs.declared.letters.Kind.TheVariants.{Inside, Call, Back}
use Rattle.nwa_base.specs.declared.letters.Letter.{Letter}
use Rattle.nwa_base.specs.Members.{Member}
use Rattle.nwa_base.specs.Acceptance.{Follows, AcceptsFrom}
use Rattle.letter_acts.specs.Frames.{Columns, IsState, IsFrame}
use Rattle.letter_acts.specs.Acts.{PlainAct, inside_act, call_act, back_act, frame_of, act_of}
use Rattle.letter_acts.specs.Meaning.{Situation, ActInside, ActCalls, ActReturns, ReturnsFrom, InsideLeads, CallLeads, BackLeads, returned_values}
use Rattle.letter_acts.specs.Ways.{Leads, GoesThrough}
use Rattle.letter_acts.specs.Feasible.{meaning}
use Rattle.letter_acts.specs.Invariant.{Graph, IsGraph, alphabet_of, IsPlaceOf, CallIsActed}
use Rattle.letter_acts.proofs.PointLemmas.{state_length}
use Rattle.letter_acts.proofs.WayLemmas.{leads_with}
use Rattle.letter_acts.proofs.KnownLemmas.{frames_laid_out}
use Rattle.path_rows.specs.Versions.{PathStage, Part, part_rows, inside_part, call_part, back_part, part_of, act_part, return_part}
use Rattle.path_rows.specs.Paths.{path_along}
use Rattle.path_rows.specs.Solutions.{read, ActObeyed, ObeyedAlong, BackObeyed, ReturnObeyed}
use Rattle.path_rows.proofs.ListLemmas.{all_joined, length-read}
use Rattle.path_rows.proofs.InsideLaws.{inside_heard}
use Rattle.path_rows.proofs.CallLaws.{call_heard}
use Rattle.path_rows.proofs.BackLaws.{returned_read, back_heard}
use Rattle.path_rows.proofs.OpenLemmas.{IsOpen, Keeps, opened, open_kept, inside_keeps, back_keeps}
use Rattle.path_rows.proofs.EdgeLemmas.{inside_acts, call_acts, back_acts}

-- the state that the point has at a place of a procedure
pub record Stands (g : Graph) (q : ℕ) (s : Situation) : Type 0 where
  pub place : IsPlaceOf g.place_procs s.proc q
  pub exists : s.proc < length g.frames
  pub state : IsState (frame_of (alphabet_of g) s.proc) s.values

-- an open call: its letter leaves the place p before it, and ties the state b before it to the state s in the callee
pub record OpenCall (g : Graph) (p : ℕ) (b s : Situation) : Type 0 where
  pub letter : Letter
  pub end : ℕ
  pub edge : Member g.automaton.calls (p, letter, end)
  pub helpers : ℕ
  pub rows : List LinearRow
  pub act : slice_get g.acts letter.id ≡ Some (call_act b.proc s.proc helpers rows)
  pub acted : CallIsActed (alphabet_of g) b.proc s.proc helpers rows
  pub before : Stands g p b
  pub is_open : IsOpen (frame_of (alphabet_of g) s.proc) helpers rows b.values s.values

-- the calls that are open, innermost first: the places before them, the situations, and the versions there
abbrev pub OpenCalls : Graph → (ℕ → ℤ) → List ℕ → List Situation → List (List ℕ) → Situation → Type 0
OpenCalls g point [] [] [] s = Unit {0}
OpenCalls g point [] [] (v ∷ saved) s = ⊥
OpenCalls g point [] (b ∷ stack) saved s = ⊥
OpenCalls g point (p ∷ before) [] saved s = ⊥
OpenCalls g point (p ∷ before) (b ∷ stack) [] s = ⊥
OpenCalls g point (p ∷ before) (b ∷ stack) (v ∷ saved) s = (b.values ≡ read point v) × OpenCall g p b s × OpenCalls g point before stack saved b

-- a point at a position of a word: the place, the situation, the open calls
pub record Comes (g : Graph) (point : ℕ → ℤ) (before : List ℕ) (q : ℕ) (stack : List Situation) (s : Situation) (p : PathStage) : Type 0 where
  pub stands : Stands g q s
  pub values : s.values ≡ read point p.here
  pub open_calls : OpenCalls g point before stack p.saved s
  -- only at the start, where no call is open, the place may be 0
  pub late : (before ≡ []) ⊎ (q ≢ 0)

-- what comes of the rest of a word
pub record Heard (g : Graph) (point : ℕ → ℤ) (n : ℕ) (stack : List Situation) (s : Situation) (p : PathStage) (w : List Letter) : Type 0 where
  pub obeyed : ObeyedAlong point (alphabet_of g) p w
  pub more : List Situation
  pub through : GoesThrough (meaning (alphabet_of g)) stack s w more
  pub read_off : map (λ t. t.values) (s ∷ more) ≡ map (read point) (path_along (alphabet_of g) n p w).states

-- ---- calls that stay open

open_moved : (g : Graph) (p : ℕ) (b s t : Situation) → s.proc ≡ t.proc → length s.values ≡ length (frame_of (alphabet_of g) s.proc) →
    Keeps (frame_of (alphabet_of g) s.proc) s.values t.values → OpenCall g p b s → OpenCall g p b t
open_moved g p b s t e l k o =
    let al = alphabet_of g in
    let moved : IsOpen (frame_of al s.proc) o.helpers o.rows b.values t.values =
    open_kept (frame_of al b.proc) (frame_of al s.proc) o.helpers o.rows b.values s.values t.values (state_length (frame_of al b.proc) b.values o.before.state) l
    o.acted.may_name k o.is_open in
    record {
      letter = o.letter;
      end = o.end;
      edge = o.edge;
      helpers = o.helpers;
      rows = o.rows;
      act = o.act ∙ ap (λ (c : ℕ). Some (call_act b.proc c o.helpers o.rows)) e;
      acted = subst (λ (c : ℕ). CallIsActed al b.proc c o.helpers o.rows) e o.acted;
      before = o.before;
      is_open = subst (λ (c : ℕ). IsOpen (frame_of al c) o.helpers o.rows b.values t.values) e moved;
    }

calls_moved : (g : Graph) (point : ℕ → ℤ) (before : List ℕ) (stack : List Situation) (saved : List (List ℕ)) (s t : Situation) → s.proc ≡ t.proc →
    length s.values ≡ length (frame_of (alphabet_of g) s.proc) → ((before ≡ [] → ⊥) → Keeps (frame_of (alphabet_of g) s.proc) s.values t.values) →
    OpenCalls g point before stack saved s → OpenCalls g point before stack saved t
calls_moved g point [] [] [] s t e l k o = tt
calls_moved g point [] [] (v ∷ saved) s t e l k o = absurd o
calls_moved g point [] (b ∷ stack) saved s t e l k o = absurd o
calls_moved g point (p ∷ before) [] saved s t e l k o = absurd o
calls_moved g point (p ∷ before) (b ∷ stack) [] s t e l k o = absurd o
calls_moved g point (p ∷ before) (b ∷ stack) (v ∷ saved) s t e l k o = (o.0, open_moved g p b s t e l (k (λ h. cc)) o.1, o.2)

-- ---- letters

-- what comes of a letter whose part is known: where it leads to, and how
record Moved (g : Graph) (point : ℕ → ℤ) (a : Letter) (before : List ℕ) (stack : List Situation) (s : Situation) (p : PathStage) (end : ℕ) (after : List ℕ) : Type 0 where
  obeyed : ActObeyed point (alphabet_of g) (act_of (alphabet_of g) a) p
  situation : Situation
  next : List Situation
  comes : Comes g point after end next situation (part_of (alphabet_of g) a p).after
  leads : Leads (meaning (alphabet_of g)) a.kind a stack s situation (λ st. st ≡ next)

inside_moves : (g : Graph) → IsGraph g → (point : ℕ → ℤ) (a : Letter) (before : List ℕ) (q e : ℕ) (stack : List Situation) (s : Situation) (p : PathStage) →
    a.kind ≡ Inside → Member g.automaton.insides (q, a, e) → Comes g point before q stack s p →
    AllByRecursion (Holds point) (part_rows (part_of (alphabet_of g) a p)) → Moved g point a before stack s p e before
inside_moves g ok point a before q e stack s p kind edge c h =
    let al = alphabet_of g in
    let k = inside_acts g ok q e a edge in
    let same : s.proc ≡ k.known.proc = let i : Some s.proc ≡ Some k.known.proc = sym c.stands.place ∙ k.known.starts in cc in
    let act : PlainAct = inside_act k.known.proc k.known.written k.known.helpers k.known.rows in
    let frame : Columns = frame_of al k.known.proc in
    let state : IsState frame s.values = subst (λ (r : ℕ). IsState (frame_of al r) s.values) same c.stands.state in
    let part : Part = inside_part frame k.known.written k.known.helpers k.known.rows p in
    let obeyed = inside_heard point al k.known.proc k.known.written k.known.helpers k.known.rows p k.known.acted (subst (IsState frame) c.values state)
    (subst (λ (o : Option PlainAct). AllByRecursion (Holds point) (part_rows (act_part al o p))) k.act_is h) in
    let t : Situation = record { proc = k.known.proc; values = read point part.after.here } in
    let exists : k.known.proc < length g.frames = k.known.acted.proc_exists in
    let leads : ActInside al (Some act) s t =
    ((same, exists), (refl, exists), subst (λ (v : List ℤ). InsideLeads frame k.known.written k.known.helpers k.known.rows v t.values) (sym c.values) obeyed.leads) in
    let long : length s.values ≡ length t.values = state_length frame s.values state ∙ sym (state_length frame t.values obeyed.leads.after) in
    record {
      obeyed = subst (λ (o : Option PlainAct). ActObeyed point al o p) (sym k.act_is) obeyed;
      situation = t;
      next = stack;
      comes = subst (λ (o : Option PlainAct). Comes g point before e stack t (act_part al o p).after) (sym k.act_is) (record {
        stands = record { place = k.known.ends; exists = exists; state = obeyed.leads.after };
        values = refl;
        open_calls = calls_moved g point before stack p.saved s t same (state_length (frame_of al s.proc) s.values c.stands.state)
            (λ n. subst (λ (r : ℕ). Keeps (frame_of al r) s.values t.values) (sym same)
            (inside_keeps al k.known.proc k.known.written k.known.helpers k.known.rows s.values t.values k.known.acted
            (k.olds (elim c.late [ inl z ↦ absurd (n z) | inr z ↦ z ])) long leads.2))
            c.open_calls;
        late = inr k.to;
      });
      leads = subst (λ (m : Kind). Leads (meaning al) m a stack s t (λ st. st ≡ stack)) (sym kind)
          (subst (λ (o : Option PlainAct). ActInside al o s t) (sym k.act_is) leads, refl);
    }

call_moves : (g : Graph) → IsGraph g → (point : ℕ → ℤ) (a : Letter) (before : List ℕ) (q e : ℕ) (stack : List Situation) (s : Situation) (p : PathStage) →
    a.kind ≡ Call → Member g.automaton.calls (q, a, e) → Comes g point before q stack s p →
    AllByRecursion (Holds point) (part_rows (part_of (alphabet_of g) a p)) → Moved g point a before stack s p e (q ∷ before)
call_moves g ok point a before q e stack s p kind edge c h =
    let al = alphabet_of g in
    let k = call_acts g ok q e a edge in
    let lay = frames_laid_out g ok in
    let same : s.proc ≡ k.known.caller = let i : Some s.proc ≡ Some k.known.caller = sym c.stands.place ∙ k.known.starts in cc in
    let act : PlainAct = call_act k.known.caller k.known.callee k.known.helpers k.known.rows in
    let caller : Columns = frame_of al k.known.caller in
    let callee : Columns = frame_of al k.known.callee in
    let fr : IsFrame lay.0 caller = lay.1 k.known.caller k.known.acted.caller_exists in
    let fe : IsFrame lay.0 callee = lay.1 k.known.callee k.known.acted.callee_exists in
    let state : IsState caller s.values = subst (λ (r : ℕ). IsState (frame_of al r) s.values) same c.stands.state in
    let part : Part = call_part callee k.known.helpers k.known.rows p in
    let obeyed = call_heard point lay.0 al k.known.caller k.known.callee k.known.helpers k.known.rows p k.known.acted fr fe (subst (IsState caller) c.values state)
    (subst (λ (o : Option PlainAct). AllByRecursion (Holds point) (part_rows (act_part al o p))) k.act_is h) in
    let t : Situation = record { proc = k.known.callee; values = read point part.after.here } in
    let led : CallLeads caller callee k.known.helpers k.known.rows s.values t.values =
    subst (λ (v : List ℤ). CallLeads caller callee k.known.helpers k.known.rows v t.values) (sym c.values) obeyed.leads in
    let leads : ActCalls al (Some act) s t = ((same, k.known.acted.caller_exists), (refl, k.known.acted.callee_exists), led) in
    record {
      obeyed = subst (λ (o : Option PlainAct). ActObeyed point al o p) (sym k.act_is) obeyed;
      situation = t;
      next = s ∷ stack;
      comes = subst (λ (o : Option PlainAct). Comes g point (q ∷ before) e (s ∷ stack) t (act_part al o p).after) (sym k.act_is) (record {
        stands = record { place = k.ends; exists = k.known.acted.callee_exists; state = obeyed.leads.after };
        values = refl;
        open_calls = (
          c.values,
          record {
            letter = a;
            end = e;
            edge = edge;
            helpers = k.known.helpers;
            rows = k.known.rows;
            act = k.known.act ∙ ap (λ (r : ℕ). Some (call_act r k.known.callee k.known.helpers k.known.rows)) (sym same);
            acted = subst (λ (r : ℕ). CallIsActed al r k.known.callee k.known.helpers k.known.rows) (sym same) k.known.acted;
            before = c.stands;
            is_open = opened lay.0 caller callee k.known.helpers k.known.rows s.values t.values fr fe led;
          },
          c.open_calls,
        );
        late = inr k.to;
      });
      leads = subst (λ (m : Kind). Leads (meaning al) m a stack s t (λ st. st ≡ s ∷ stack)) (sym kind)
          (subst (λ (o : Option PlainAct). ActCalls al o s t) (sym k.act_is) leads, refl);
    }

-- the call that a return matches has the act of the letter that the return names
back_moves : (g : Graph) → IsGraph g → (point : ℕ → ℤ) (a : Letter) (before : List ℕ) (q m e : ℕ) (stack : List Situation) (s : Situation) (p : PathStage) →
    a.kind ≡ Back → Member g.automaton.backs (q, m, a, e) → Comes g point (m ∷ before) q stack s p →
    Moved g point a (m ∷ before) stack s p e before
back_moves g ok point a before q m e stack s p kind edge c = by_stack stack p.saved refl c.open_calls
  where
    by_stack : (st : List Situation) (saved : List (List ℕ)) → p.saved ≡ saved → OpenCalls g point (m ∷ before) st saved s → Moved g point a (m ∷ before) st s p e before
    by_stack [] saved i o = absurd o
    by_stack (b ∷ st) [] i o = absurd o
    by_stack (b ∷ st) (v ∷ saved) i o =
        let al = alphabet_of g in
        let k = back_acts g ok q m e a kind edge in
        let lay = frames_laid_out g ok in
        let one : o.1.letter.id ≡ a.call = ok.edges.one_call.both m q o.1.end e o.1.letter a o.1.edge edge in
        let acts : Some (call_act b.proc s.proc o.1.helpers o.1.rows) ≡ Some (call_act k.known.caller k.known.callee k.known.helpers k.known.rows) =
        sym o.1.act ∙ ap (slice_get g.acts) one ∙ k.known.call in
        let same_caller : b.proc ≡ k.known.caller = cc in
        let same_callee : s.proc ≡ k.known.callee = cc in
        let same_helpers : o.1.helpers ≡ k.known.helpers = cc in
        let same_rows : o.1.rows ≡ k.known.rows = cc in
        let caller : Columns = frame_of al k.known.caller in
        let callee : Columns = frame_of al k.known.callee in
        let fr : IsFrame lay.0 caller = lay.1 k.known.caller k.known.call_acted.caller_exists in
        let fe : IsFrame lay.0 callee = lay.1 k.known.callee k.known.call_acted.callee_exists in
        let x : IsState callee s.values = subst (λ (r : ℕ). IsState (frame_of al r) s.values) same_callee c.stands.state in
        let y : IsState caller b.values = subst (λ (r : ℕ). IsState (frame_of al r) b.values) same_caller o.1.before.state in
        let is_open : IsOpen callee k.known.helpers k.known.rows b.values s.values =
        subst (λ (r : ℕ). IsOpen (frame_of al r) k.known.helpers k.known.rows b.values s.values) same_callee
        (subst (λ (r : List LinearRow). IsOpen (frame_of al s.proc) k.known.helpers r b.values s.values) same_rows
        (subst (λ (r : ℕ). IsOpen (frame_of al s.proc) r o.1.rows b.values s.values) same_helpers o.1.is_open)) in
        let part : Part = back_part caller callee k.known.targets p.made p.here (v ∷ saved) in
        let t : Situation = record { proc = k.known.caller; values = read point part.after.here } in
        let long : length p.here ≡ length callee = sym (length-read point p.here) ∙ ap length (sym c.values) ∙ state_length callee s.values x in
        let e1 : t.values ≡ returned_values caller callee k.known.targets s.values b.values =
        returned_read point caller callee k.known.targets p.here v long ∙
        ap (λ (l : List ℤ). returned_values caller callee k.known.targets l (read point v)) (sym c.values) ∙
        ap (λ (l : List ℤ). returned_values caller callee k.known.targets s.values l) (sym o.0) in
        let led : BackLeads caller callee k.known.helpers k.known.rows k.known.targets s.values b.values t.values =
        back_heard lay.0 caller callee k.known.helpers k.known.rows k.known.targets s.values b.values t.values fr fe k.known.acted x y is_open e1 in
        let leads : ReturnsFrom al k.known.targets (Some (call_act k.known.caller k.known.callee k.known.helpers k.known.rows)) s b t =
        ((same_callee, k.known.call_acted.callee_exists), (same_caller, k.known.call_acted.caller_exists), (refl, k.known.call_acted.caller_exists), led) in
        let returns : ActReturns al (Some (back_act a.call k.known.targets)) s b t =
        subst (λ (r : Option PlainAct). ReturnsFrom al k.known.targets r s b t) (sym k.known.call) leads in
        let to : Part = return_part al k.known.targets (slice_get g.acts a.call) p in
        let there : act_part al (act_of al a) p ≡ part =
        ap (λ (r : Option PlainAct). act_part al r p) k.act_is ∙
        ap (λ (r : Option PlainAct). return_part al k.known.targets r p) k.known.call ∙
        ap (λ (r : List (List ℕ)). back_part caller callee k.known.targets p.made p.here r) i in
        let read_obeyed : BackObeyed point caller callee k.known.helpers k.known.rows k.known.targets p.made p.here (v ∷ saved) =
        subst (λ (l : List ℤ). BackLeads caller callee k.known.helpers k.known.rows k.known.targets l (read point v) t.values) c.values
        (subst (λ (l : List ℤ). BackLeads caller callee k.known.helpers k.known.rows k.known.targets s.values l t.values) o.0 led) in
        record {
          obeyed = subst (λ (r : Option PlainAct). ActObeyed point al r p) (sym k.act_is)
              (subst (λ (r : Option PlainAct). ReturnObeyed point al k.known.targets r p) (sym k.known.call)
              (subst (λ (r : List (List ℕ)). BackObeyed point caller callee k.known.helpers k.known.rows k.known.targets p.made p.here r) (sym i) read_obeyed));
          situation = t;
          next = st;
          comes = subst (λ (r : Part). Comes g point before e st t r.after) (sym there) (record {
            stands = record { place = k.known.ends; exists = k.known.call_acted.caller_exists; state = led.at_end };
            values = refl;
            open_calls = calls_moved g point before st saved b t same_caller (state_length (frame_of al b.proc) b.values o.1.before.state)
                (λ n. subst (λ (r : ℕ). Keeps (frame_of al r) b.values t.values) (sym same_caller)
                (back_keeps lay.0 caller callee k.known.helpers k.known.rows k.known.targets s.values b.values t.values fr fe k.known.acted
                (state_length caller b.values y ∙ sym (state_length caller t.values led.at_end)) led))
                o.2;
            late = inr k.to;
          });
          leads = subst (λ (r : Kind). Leads (meaning al) r a (b ∷ st) s t (λ x. x ≡ st)) (sym kind)
              (subst (λ (r : Option PlainAct). ActReturns al r s b t) (sym k.act_is) returns, refl);
        }

-- ---- words

-- what follows a letter that moves
heard_on : (g : Graph) (point : ℕ → ℤ) (n : ℕ) (a : Letter) (w : List Letter) (before : List ℕ) (stack : List Situation) (s : Situation) (p : PathStage) (end : ℕ) (after : List ℕ) →
    s.values ≡ read point p.here → (m : Moved g point a before stack s p end after) →
    Heard g point (suc n) m.next m.situation (part_of (alphabet_of g) a p).after w → Heard g point n stack s p (a ∷ w)
heard_on g point n a w before stack s p end after e m r = record {
  obeyed = (m.obeyed, r.obeyed);
  more = m.situation ∷ r.more;
  through = leads_with (meaning (alphabet_of g)) a.kind a stack s m.situation m.next (λ st. GoesThrough (meaning (alphabet_of g)) st m.situation w r.more) m.leads r.through;
  read_off = let f = r.read_off in
      ap (λ (l : List (List ℤ)). s.values ∷ l) f ∙
      ap (λ (l : List ℤ). l ∷ map (read point) (path_along (alphabet_of g) (suc n) (part_of (alphabet_of g) a p).after w).states) e;
}

pub heard : (g : Graph) → IsGraph g → (point : ℕ → ℤ) (w : List Letter) (n : ℕ) (before : List ℕ) (q : ℕ) (stack : List Situation) (s : Situation) (p : PathStage) →
    AcceptsFrom g.automaton before q w → Comes g point before q stack s p →
    AllByRecursion (Holds point) (path_along (alphabet_of g) n p w).rows → Heard g point n stack s p w
heard g ok point [] n before q stack s p acc c h = record {
  obeyed = tt;
  more = [];
  through = tt;
  read_off = ap (λ (l : List ℤ). l ∷ []) c.values;
}
heard g ok point (a ∷ w) n before q stack s p acc c h =
    let al = alphabet_of g in
    let j = (all_joined (Holds point) (part_rows (part_of al a p)) (path_along al (suc n) (part_of al a p).after w).rows).0 h in
    by_kind a.kind refl before acc.0 c acc.1 j.0 j.1 (λ before e stack s p acc c h. heard g ok point w (suc n) before e stack s p acc c h)
  where
    by_kind : (kind : Kind) → a.kind ≡ kind → (before : List ℕ) (e : ℕ) → Comes g point before q stack s p →
        Follows g.automaton kind a before q e (λ st. AcceptsFrom g.automaton st e w) →
        AllByRecursion (Holds point) (part_rows (part_of (alphabet_of g) a p)) →
        AllByRecursion (Holds point) (path_along (alphabet_of g) (suc n) (part_of (alphabet_of g) a p).after w).rows →
        ((before : List ℕ) (q : ℕ) (stack : List Situation) (s : Situation) (p : PathStage) → AcceptsFrom g.automaton before q w → Comes g point before q stack s p →
        AllByRecursion (Holds point) (path_along (alphabet_of g) (suc n) p w).rows → Heard g point (suc n) stack s p w) →
        Heard g point n stack s p (a ∷ w)
    by_kind Inside k before e c f own rest on =
        let m = inside_moves g ok point a before q e stack s p k f.0 c own in
        heard_on g point n a w before stack s p e before c.values m (on before e m.next m.situation (part_of (alphabet_of g) a p).after f.1 m.comes rest)
    by_kind Call k before e c f own rest on =
        let m = call_moves g ok point a before q e stack s p k f.0 c own in
        heard_on g point n a w before stack s p e (q ∷ before) c.values m (on (q ∷ before) e m.next m.situation (part_of (alphabet_of g) a p).after f.1 m.comes rest)
    by_kind Back k [] e c f own rest on = absurd f
    by_kind Back k (b ∷ before) e c f own rest on =
        let m = back_moves g ok point a before q b e stack s p k f.0 c in
        heard_on g point n a w (b ∷ before) stack s p e before c.values m (on before e m.next m.situation (part_of (alphabet_of g) a p).after f.1 m.comes rest)
