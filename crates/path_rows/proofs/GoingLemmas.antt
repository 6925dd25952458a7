-- The letter by which the automaton goes on: its act may be read, and the path goes on behind it.
use Rattle.std.proofs.Common.{◌≡◌, ◌∙◌, ℕ, zero, suc, ◌<◌, ◌≤◌, List, [], ◌∷◌, length, Option, Some, refl, sym, ap, subst, arith}
use Rattle.std.specs.Prelude.{slice_get}
use Rattle.boogie_tree.specs.declared.tree.VarInfo.{VarInfo}
use Rattle.lin_rows.specs.Rows.{LinearRow}
use Rattle.nwa_base.specs.declared.letters.Kind.{Kind}
use Rattle.nwa_base.specs.declared.letters.Kind.TheVariants as kinds
use Rattle.nwa_base.specs.declared.letters.Letter.{Letter}
use Rattle.nwa_base.specs.Members.{Member}
use Rattle.nwa_base.specs.Acceptance.{Follows, AcceptsFrom}
use Rattle.letter_acts.specs.Frames.{Columns, IsFrame, globals_of}
use Rattle.letter_acts.specs.Acts.{PlainAct, inside_act, call_act, back_act, frame_of, act_of, kind_of}
use Rattle.letter_acts.specs.Invariant.{Graph, IsGraph, alphabet_of, IsPlaceOf}
use Rattle.letter_acts.specs.Kept.{Keeps}
use Rattle.letter_acts.proofs.KnownLemmas.{frames_laid_out, act_found}
use Rattle.path_rows.specs.Versions.{PathStage, Part, part_of, act_part, return_part, inside_part, call_part, back_part, returned}
use Rattle.path_rows.specs.Stages.{AreVersions, VersionsAt, AreApart, AreSaved, ComesTo, GoesOnBy, InsideFits, CallFits, BackFits, BackFitsFrom, FitsBefore, BackReady}
use Rattle.path_rows.specs.Drafts.{CanGoOn}
use Rattle.path_rows.proofs.LayoutLemmas.{laid_out}
use Rattle.path_rows.proofs.EdgeLemmas.{inside_acts, call_acts, back_acts}
use Rattle.path_rows.proofs.SaidLaws.{acted}
use Rattle.path_rows.proofs.StageLemmas.{inside_fits, inside_versions, inside_saved, call_fits, call_versions, call_apart, Returns, back_fits, back_versions, back_apart}

-- what stands at a place of a list of procedures
same_proc : (procs : List ℕ) (q a b : ℕ) → IsPlaceOf procs a q → IsPlaceOf procs b q → a ≡ b
same_proc procs q a b x y = let e : Some a ≡ Some b = sym x ∙ y in cc

-- the versions at a place are those of the frame of its procedure
versions_of : (g : Graph) (q made : ℕ) (here : List ℕ) (p : ℕ) → VersionsAt g q made here → IsPlaceOf g.place_procs p q → AreVersions made (frame_of (alphabet_of g) p) here
versions_of g q made here p v i = subst (λ (r : ℕ). AreVersions made (frame_of (alphabet_of g) r) here) (same_proc g.place_procs q v.proc p v.place i) v.versions

-- ---- the act of the letter

-- an edge by a letter: its act is known, and it makes that letter
pub record Acts (g : Graph) (a : Letter) : Type 0 where
  pub act : PlainAct
  pub there : slice_get g.acts a.id ≡ Some act
  pub is : act_of (alphabet_of g) a ≡ Some act

pub acts_of : (g : Graph) → IsGraph g → (a : Letter) (p : PathStage) → GoesOnBy g a p → Acts g a
acts_of g ok a p h = by_kind a.kind refl h.places h.follows
  where
    by_kind : (kind : Kind) → a.kind ≡ kind → (places : List ℕ) → Follows g.automaton kind a places h.from h.to (λ rest. Unit {0}) → Acts g a
    by_kind kinds.Inside k places f =
        let e = inside_acts g ok h.from h.to a f.0 in
        record { act = inside_act e.known.proc e.known.written e.known.helpers e.known.rows; there = e.known.act; is = e.act_is }
    by_kind kinds.Call k places f =
        let e = call_acts g ok h.from h.to a f.0 in
        record { act = call_act e.known.caller e.known.callee e.known.helpers e.known.rows; there = e.known.act; is = e.act_is }
    by_kind kinds.Back k [] f = absurd f
    by_kind kinds.Back k (m ∷ places) f =
        let e = back_acts g ok h.from m h.to a k f.0 in
        record { act = back_act a.call e.known.targets; there = e.known.act; is = e.act_is }

-- the letter of an act is of its kind
act_kind : (g : Graph) (a : Letter) (act : PlainAct) → act_of (alphabet_of g) a ≡ Some act → a.kind ≡ kind_of act
act_kind g a act e = ap (λ (b : Letter). b.kind) (act_found (alphabet_of g) a act e).1

-- ---- inside letters

pub record InsideGoes (g : Graph) (a : Letter) (p : PathStage) (q : ℕ) (written : List ℕ) (helpers : ℕ) (rows : List LinearRow) : Type 0 where
  pub exists : q < length g.frames
  pub fits : InsideFits written helpers rows p.made p.here
  pub is : part_of (alphabet_of g) a p ≡ inside_part (frame_of (alphabet_of g) q) written helpers rows p

pub inside_goes : (g : Graph) → IsGraph g → (a : Letter) (p : PathStage) (q : ℕ) (written : List ℕ) (helpers : ℕ) (rows : List LinearRow) → GoesOnBy g a p →
    slice_get g.acts a.id ≡ Some (inside_act q written helpers rows) → InsideGoes g a p q written helpers rows
inside_goes g ok a p q written helpers rows h e =
    let k = acts_of g ok a p h in
    let same : Some k.act ≡ Some (inside_act q written helpers rows) = sym k.there ∙ e in
    let act_is : act_of (alphabet_of g) a ≡ Some (inside_act q written helpers rows) = k.is ∙ same in
    let kept = acted g ok a (inside_act q written helpers rows) act_is in
    let inside = follows_inside (act_kind g a (inside_act q written helpers rows) act_is) h.places h.follows in
    let edge = inside_acts g ok h.from h.to a inside in
    let other : Some (inside_act edge.known.proc edge.known.written edge.known.helpers edge.known.rows) ≡ Some (inside_act q written helpers rows) = sym edge.known.act ∙ e in
    let proc : edge.known.proc ≡ q = cc in
    let place : IsPlaceOf g.place_procs q h.from = subst (λ (r : ℕ). IsPlaceOf g.place_procs r h.from) proc edge.known.starts in
    record {
      exists = kept.proc_exists;
      fits = inside_fits (alphabet_of g) q written helpers rows p.made p.here kept (versions_of g h.from p.made p.here q h.comes.here place);
      is = ap (λ (o : Option PlainAct). act_part (alphabet_of g) o p) act_is;
    }
  where
    follows_inside : a.kind ≡ kinds.Inside → (places : List ℕ) → Follows g.automaton a.kind a places h.from h.to (λ rest. Unit {0}) → Member g.automaton.insides (h.from, a, h.to)
    follows_inside k places f = (subst (λ (r : Kind). Follows g.automaton r a places h.from h.to (λ rest. Unit {0})) k f).0

-- ---- calls

pub record CallGoes (g : Graph) (a : Letter) (p : PathStage) (caller callee helpers : ℕ) (rows : List LinearRow) : Type 0 where
  pub exists : callee < length g.frames
  pub fits : CallFits (frame_of (alphabet_of g) callee) helpers rows p.made p.here
  pub is : part_of (alphabet_of g) a p ≡ call_part (frame_of (alphabet_of g) callee) helpers rows p

pub call_goes : (g : Graph) → IsGraph g → (a : Letter) (p : PathStage) (caller callee helpers : ℕ) (rows : List LinearRow) → GoesOnBy g a p →
    slice_get g.acts a.id ≡ Some (call_act caller callee helpers rows) → CallGoes g a p caller callee helpers rows
call_goes g ok a p caller callee helpers rows h e =
    let k = acts_of g ok a p h in
    let same : Some k.act ≡ Some (call_act caller callee helpers rows) = sym k.there ∙ e in
    let act_is : act_of (alphabet_of g) a ≡ Some (call_act caller callee helpers rows) = k.is ∙ same in
    let kept = acted g ok a (call_act caller callee helpers rows) act_is in
    let lay = frames_laid_out g ok in
    let call = follows_call (act_kind g a (call_act caller callee helpers rows) act_is) h.places h.follows in
    let edge = call_acts g ok h.from h.to a call in
    let other : Some (call_act edge.known.caller edge.known.callee edge.known.helpers edge.known.rows) ≡ Some (call_act caller callee helpers rows) = sym edge.known.act ∙ e in
    let proc : edge.known.caller ≡ caller = cc in
    let place : IsPlaceOf g.place_procs caller h.from = subst (λ (r : ℕ). IsPlaceOf g.place_procs r h.from) proc edge.known.starts in
    record {
      exists = kept.callee_exists;
      fits = call_fits lay.0 (alphabet_of g) caller callee helpers rows p.made p.here kept (lay.1 caller kept.caller_exists) (lay.1 callee kept.callee_exists)
          (versions_of g h.from p.made p.here caller h.comes.here place);
      is = ap (λ (o : Option PlainAct). act_part (alphabet_of g) o p) act_is;
    }
  where
    follows_call : a.kind ≡ kinds.Call → (places : List ℕ) → Follows g.automaton a.kind a places h.from h.to (λ rest. Unit {0}) → Member g.automaton.calls (h.from, a, h.to)
    follows_call k places f = (subst (λ (r : Kind). Follows g.automaton r a places h.from h.to (λ rest. Unit {0})) k f).0

-- ---- returns

-- an edge by a return: the versions before its call are saved, and fit
pub record BackFacts (g : Graph) (a : Letter) (e made n : ℕ) (here v : List ℕ) : Type 0 where
  pub globals : List VarInfo
  pub caller : ℕ
  pub callee : ℕ
  pub helpers : ℕ
  pub rows : List LinearRow
  pub targets : List ℕ
  pub act_is : act_of (alphabet_of g) a ≡ Some (back_act a.call targets)
  pub call_is : slice_get g.acts a.call ≡ Some (call_act caller callee helpers rows)
  pub ends : IsPlaceOf g.place_procs caller e
  pub caller_exists : caller < length g.frames
  pub callee_exists : callee < length g.frames
  pub frames_of : (p : ℕ) → p < length g.frames → IsFrame globals (frame_of (alphabet_of g) p)
  pub returns : Returns globals (frame_of (alphabet_of g) caller) (frame_of (alphabet_of g) callee) targets here v n made
  pub fits : BackFits (frame_of (alphabet_of g) caller) (frame_of (alphabet_of g) callee) targets here v

pub back_facts : (g : Graph) → IsGraph g → (a : Letter) (q m e made n : ℕ) (here v : List ℕ) → a.kind ≡ kinds.Back → Member g.automaton.backs (q, m, a, e) → VersionsAt g q made here →
    n ≤ made → (s : VersionsAt g m n v) → AreApart n (length (globals_of (frame_of (alphabet_of g) s.proc))) here v → BackFacts g a e made n here v
back_facts g ok a q m e made n here v kind edge at l s apart =
    let k = back_acts g ok q m e a kind edge in
    let lay = frames_laid_out g ok in
    let exit_place : IsPlaceOf g.place_procs k.known.callee q = k.exit in
    let caller_same : s.proc ≡ k.known.caller = same_proc g.place_procs m s.proc k.known.caller s.place k.known.before in
    let r : Returns lay.0 (frame_of (alphabet_of g) k.known.caller) (frame_of (alphabet_of g) k.known.callee) k.known.targets here v n made = record {
      from_frame = lay.1 k.known.caller k.known.call_acted.caller_exists;
      to_frame = lay.1 k.known.callee k.known.call_acted.callee_exists;
      exit_versions = versions_of g q made here k.known.callee at exit_place;
      before_versions = versions_of g m n v k.known.caller s k.known.before;
      earlier = l;
      apart = subst (λ (c : ℕ). AreApart n (length (globals_of (frame_of (alphabet_of g) c))) here v) caller_same apart;
    } in
    record {
      globals = lay.0;
      caller = k.known.caller;
      callee = k.known.callee;
      helpers = k.known.helpers;
      rows = k.known.rows;
      targets = k.known.targets;
      act_is = k.act_is;
      call_is = k.known.call;
      ends = k.known.ends;
      caller_exists = k.known.call_acted.caller_exists;
      callee_exists = k.known.call_acted.callee_exists;
      frames_of = lay.1;
      returns = r;
      fits = back_fits lay.0 (frame_of (alphabet_of g) k.known.caller) (frame_of (alphabet_of g) k.known.callee) k.known.helpers k.known.targets here v n made r k.known.acted;
    }

pub record BackGoes (g : Graph) (a : Letter) (p : PathStage) (call : ℕ) (targets : List ℕ) : Type 0 where
  pub ready : BackReady (alphabet_of g) targets (slice_get g.acts call) p
  pub is : part_of (alphabet_of g) a p ≡ return_part (alphabet_of g) targets (slice_get g.acts call) p

pub back_goes : (g : Graph) → IsGraph g → (a : Letter) (p : PathStage) (call : ℕ) (targets : List ℕ) → GoesOnBy g a p →
    slice_get g.acts a.id ≡ Some (back_act call targets) → BackGoes g a p call targets
back_goes g ok a p call targets h e =
    let k = acts_of g ok a p h in
    let same : Some k.act ≡ Some (back_act call targets) = sym k.there ∙ e in
    let act_is : act_of (alphabet_of g) a ≡ Some (back_act call targets) = k.is ∙ same in
    let kind : a.kind ≡ kinds.Back = act_kind g a (back_act call targets) act_is in
    record {
      ready = by_stack kind act_is h.places p.saved (subst (λ (r : Kind). Follows g.automaton r a h.places h.from h.to (λ rest. Unit {0})) kind h.follows) h.comes.saved;
      is = ap (λ (o : Option PlainAct). act_part (alphabet_of g) o p) act_is;
    }
  where
    by_stack : a.kind ≡ kinds.Back → act_of (alphabet_of g) a ≡ Some (back_act call targets) → (places : List ℕ) (saved : List (List ℕ)) →
        Follows g.automaton kinds.Back a places h.from h.to (λ rest. Unit {0}) → AreSaved g p.made places saved p.here → FitsBefore (alphabet_of g) targets (slice_get g.acts call) p.here saved
    by_stack k i [] saved f s = absurd f
    by_stack k i (m ∷ places) [] f s = absurd s
    by_stack k i (m ∷ places) (v ∷ saved) f s =
        let b = back_facts g ok a h.from m h.to p.made s.0 p.here v k f.0 h.comes.here s.1 s.2 s.3 in
        let acts : Some (back_act a.call b.targets) ≡ Some (back_act call targets) = sym b.act_is ∙ i in
        let c : a.call ≡ call = cc in
        let t : b.targets ≡ targets = cc in
        let there : slice_get g.acts call ≡ Some (call_act b.caller b.callee b.helpers b.rows) = ap (slice_get g.acts) (sym c) ∙ b.call_is in
        subst (λ (o : Option PlainAct). BackFitsFrom (alphabet_of g) targets o p.here v) (sym there)
        (b.caller_exists, b.callee_exists, subst (λ (ts : List ℕ). BackFits (frame_of (alphabet_of g) b.caller) (frame_of (alphabet_of g) b.callee) ts p.here v) t b.fits)

-- ---- on the way through a word

pub goes_first : (g : Graph) (p : PathStage) (a : Letter) (w : List Letter) → CanGoOn g p (a ∷ w) → GoesOnBy g a p
goes_first g p a w h = record {
  places = h.places;
  from = h.from;
  to = h.accepts.0;
  comes = h.comes;
  follows = by_kind a.kind h.places h.accepts.1;
}
  where
    by_kind : (kind : Kind) (places : List ℕ) → Follows g.automaton kind a places h.from h.accepts.0 (λ st. AcceptsFrom g.automaton st h.accepts.0 w) →
        Follows g.automaton kind a places h.from h.accepts.0 (λ rest. Unit {0})
    by_kind kinds.Inside places f = (f.0, tt)
    by_kind kinds.Call places f = (f.0, tt)
    by_kind kinds.Back [] f = absurd f
    by_kind kinds.Back (m ∷ places) f = (f.0, tt)

-- all frames have as many constants and globals
same_count : (globals : List VarInfo) (a b : Columns) → IsFrame globals a → IsFrame globals b → length (globals_of a) ≡ length (globals_of b)
same_count globals a b f h = (laid_out globals a f).global_count ∙ sym (laid_out globals b h).global_count

-- the versions before the outer calls stay saved over a return
after_return : (g : Graph) (globals : List VarInfo) (caller callee : Columns) (targets here v : List ℕ) (n made : ℕ) → Returns globals caller callee targets here v n made →
    ((p : ℕ) → p < length g.frames → IsFrame globals (frame_of (alphabet_of g) p)) → (places : List ℕ) (saved : List (List ℕ)) → AreSaved g n places saved v →
    AreSaved g made places saved (returned caller callee targets here v)
after_return g globals caller callee targets here v n made r f [] [] s = tt
after_return g globals caller callee targets here v n made r f [] (u ∷ saved) s = absurd s
after_return g globals caller callee targets here v n made r f (p ∷ places) [] s = absurd s
after_return g globals caller callee targets here v n made r f (p ∷ places) (u ∷ saved) s =
    (let k = s.1 in let l = r.earlier in (
      s.0,
      omega (arith, k, l),
      s.2,
      back_apart globals caller callee targets here v n made r s.0 (length (globals_of (frame_of (alphabet_of g) s.2.proc))) u s.1
          (same_count globals (frame_of (alphabet_of g) s.2.proc) caller (f s.2.proc s.2.exists) r.from_frame) s.3,
      s.4,
    ))

back_next : (g : Graph) → IsGraph g → (p : PathStage) (a : Letter) (w : List Letter) (q m e : ℕ) (places : List ℕ) → a.kind ≡ kinds.Back → Member g.automaton.backs (q, m, a, e) →
    AcceptsFrom g.automaton places e w → VersionsAt g q p.made p.here → (saved : List (List ℕ)) → p.saved ≡ saved → AreSaved g p.made (m ∷ places) saved p.here →
    CanGoOn g (part_of (alphabet_of g) a p).after w
back_next g ok p a w q m e places k edge acc at [] i s = absurd s
back_next g ok p a w q m e places k edge acc at (v ∷ saved) i s =
    let b = back_facts g ok a q m e p.made s.0 p.here v k edge at s.1 s.2 s.3 in
    let caller : Columns = frame_of (alphabet_of g) b.caller in
    let callee : Columns = frame_of (alphabet_of g) b.callee in
    let part : Part = back_part caller callee b.targets p.made p.here (v ∷ saved) in
    let there : part_of (alphabet_of g) a p ≡ part =
    ap (λ (o : Option PlainAct). act_part (alphabet_of g) o p) b.act_is ∙
    ap (λ (o : Option PlainAct). return_part (alphabet_of g) b.targets o p) b.call_is ∙
    ap (λ (r : List (List ℕ)). back_part caller callee b.targets p.made p.here r) i in
    subst (λ (r : Part). CanGoOn g r.after w) (sym there) (record {
      places = places;
      from = e;
      comes = record {
        here = record {
          proc = b.caller;
          place = b.ends;
          exists = b.caller_exists;
          versions = back_versions b.globals caller callee b.targets p.here v s.0 p.made b.returns;
        };
        saved = after_return g b.globals caller callee b.targets p.here v s.0 p.made b.returns b.frames_of places saved s.4;
      };
      accepts = acc;
    })

pub goes_next : (g : Graph) → IsGraph g → (p : PathStage) (a : Letter) (w : List Letter) → CanGoOn g p (a ∷ w) → CanGoOn g (part_of (alphabet_of g) a p).after w
goes_next g ok p a w h = by_kind a.kind refl h.places h.comes h.accepts.1
  where
    by_kind : (kind : Kind) → a.kind ≡ kind → (places : List ℕ) → ComesTo g places h.from p →
        Follows g.automaton kind a places h.from h.accepts.0 (λ st. AcceptsFrom g.automaton st h.accepts.0 w) → CanGoOn g (part_of (alphabet_of g) a p).after w
    by_kind kinds.Inside k places c f =
        let x = inside_acts g ok h.from h.accepts.0 a f.0 in
        let frame : Columns = frame_of (alphabet_of g) x.known.proc in
        subst (λ (o : Option PlainAct). CanGoOn g (act_part (alphabet_of g) o p).after w) (sym x.act_is) (record {
          places = places;
          from = h.accepts.0;
          comes = record {
            here = record {
              proc = x.known.proc;
              place = x.known.ends;
              exists = x.known.acted.proc_exists;
              versions = inside_versions frame x.known.written x.known.helpers x.known.rows p (versions_of g h.from p.made p.here x.known.proc c.here x.known.starts);
            };
            saved = inside_saved g places frame x.known.written x.known.helpers x.known.rows p c.saved;
          };
          accepts = f.1;
        })
    by_kind kinds.Call k places c f =
        let x = call_acts g ok h.from h.accepts.0 a f.0 in
        let lay = frames_laid_out g ok in
        let caller : Columns = frame_of (alphabet_of g) x.known.caller in
        let callee : Columns = frame_of (alphabet_of g) x.known.callee in
        let fr = lay.1 x.known.caller x.known.acted.caller_exists in
        let fe = lay.1 x.known.callee x.known.acted.callee_exists in
        let v = versions_of g h.from p.made p.here x.known.caller c.here x.known.starts in
        let before : VersionsAt g h.from p.made p.here = record { proc = x.known.caller; place = x.known.starts; exists = x.known.acted.caller_exists; versions = v } in
        subst (λ (o : Option PlainAct). CanGoOn g (act_part (alphabet_of g) o p).after w) (sym x.act_is) (record {
          places = h.from ∷ places;
          from = h.accepts.0;
          comes = record {
            here = record {
              proc = x.known.callee;
              place = x.ends;
              exists = x.known.acted.callee_exists;
              versions = call_versions lay.0 caller callee x.known.helpers x.known.rows p fr fe v;
            };
            saved = (p.made, omega arith, before, call_apart lay.0 caller callee x.known.helpers x.known.rows p fr fe v, c.saved);
          };
          accepts = f.1;
        })
    by_kind kinds.Back k [] c f = absurd f
    by_kind kinds.Back k (m ∷ places) c f = back_next g ok p a w h.from m h.accepts.0 places k f.0 f.1 c.here p.saved refl c.saved

-- ---- what the function that reads a letter asks and gives

pub kept_graph : (g : Graph) → Keeps g → IsGraph g
unfolding Keeps
kept_graph g h = h

pub letter_within : (g : Graph) → Keeps g → (a : Letter) (p : PathStage) → GoesOnBy g a p → a.id < length g.acts
letter_within g k a p h = (let e = acts_of g (kept_graph g k) a p h in some_at g.acts a.id e.act e.there)
  where
    some_at : (xs : List PlainAct) (i : ℕ) (x : PlainAct) → slice_get xs i ≡ Some x → i < length xs
    some_at [] i x e = absurd (cc)
    some_at (y ∷ ys) zero x e = omega arith
    some_at (y ∷ ys) (suc i) x e = let k = some_at ys i x e in omega (arith, k)

pub inside_asks : (g : Graph) → Keeps g → (a : Letter) (p : PathStage) (q : ℕ) (written : List ℕ) (helpers : ℕ) (rows : List LinearRow) (ws : List ℕ) (rs : List LinearRow) → GoesOnBy g a p →
    slice_get g.acts a.id ≡ Some (inside_act q written helpers rows) → ws ≡ written → rs ≡ rows → InsideFits ws helpers rs p.made p.here
inside_asks g k a p q written helpers rows ws rs h e f i =
    let s = (inside_goes g (kept_graph g k) a p q written helpers rows h e).fits in
    subst (λ (l : List ℕ). InsideFits l helpers rs p.made p.here) (sym f) (subst (λ (l : List LinearRow). InsideFits written helpers l p.made p.here) (sym i) s)

pub inside_gives : (g : Graph) → Keeps g → (a : Letter) (p : PathStage) (q : ℕ) (written : List ℕ) (helpers : ℕ) (rows : List LinearRow) (frame : Columns) (ws : List ℕ) (rs : List LinearRow) →
    GoesOnBy g a p → slice_get g.acts a.id ≡ Some (inside_act q written helpers rows) → frame ≡ frame_of (alphabet_of g) q → ws ≡ written → rs ≡ rows →
    inside_part frame ws helpers rs p ≡ part_of (alphabet_of g) a p
inside_gives g k a p q written helpers rows frame ws rs h e j f i =
    ap (λ (l : Columns). inside_part l ws helpers rs p) j ∙ ap (λ (l : List ℕ). inside_part (frame_of (alphabet_of g) q) l helpers rs p) f ∙
    ap (λ (l : List LinearRow). inside_part (frame_of (alphabet_of g) q) written helpers l p) i ∙
    sym (inside_goes g (kept_graph g k) a p q written helpers rows h e).is

pub call_asks : (g : Graph) → Keeps g → (a : Letter) (p : PathStage) (caller callee helpers : ℕ) (rows : List LinearRow) (frame : Columns) (rs : List LinearRow) → GoesOnBy g a p →
    slice_get g.acts a.id ≡ Some (call_act caller callee helpers rows) → frame ≡ frame_of (alphabet_of g) callee → rs ≡ rows → CallFits frame helpers rs p.made p.here
call_asks g k a p caller callee helpers rows frame rs h e j i =
    let s = (call_goes g (kept_graph g k) a p caller callee helpers rows h e).fits in
    subst (λ (l : Columns). CallFits l helpers rs p.made p.here) (sym j) (subst (λ (l : List LinearRow). CallFits (frame_of (alphabet_of g) callee) helpers l p.made p.here) (sym i) s)

pub call_gives : (g : Graph) → Keeps g → (a : Letter) (p : PathStage) (caller callee helpers : ℕ) (rows : List LinearRow) (frame : Columns) (rs : List LinearRow) → GoesOnBy g a p →
    slice_get g.acts a.id ≡ Some (call_act caller callee helpers rows) → frame ≡ frame_of (alphabet_of g) callee → rs ≡ rows → call_part frame helpers rs p ≡ part_of (alphabet_of g) a p
call_gives g k a p caller callee helpers rows frame rs h e j i =
    ap (λ (l : Columns). call_part l helpers rs p) j ∙ ap (λ (l : List LinearRow). call_part (frame_of (alphabet_of g) callee) helpers l p) i ∙
    sym (call_goes g (kept_graph g k) a p caller callee helpers rows h e).is

pub back_asks : (g : Graph) → Keeps g → (a : Letter) (p : PathStage) (call : ℕ) (targets ts : List ℕ) → GoesOnBy g a p → slice_get g.acts a.id ≡ Some (back_act call targets) → ts ≡ targets →
    BackReady (alphabet_of g) ts (slice_get g.acts call) p
back_asks g k a p call targets ts h e i =
    subst (λ (l : List ℕ). BackReady (alphabet_of g) l (slice_get g.acts call) p) (sym i) (back_goes g (kept_graph g k) a p call targets h e).ready

pub back_gives : (g : Graph) → Keeps g → (a : Letter) (p : PathStage) (call : ℕ) (targets ts : List ℕ) → GoesOnBy g a p → slice_get g.acts a.id ≡ Some (back_act call targets) → ts ≡ targets →
    return_part (alphabet_of g) ts (slice_get g.acts call) p ≡ part_of (alphabet_of g) a p
back_gives g k a p call targets ts h e i =
    ap (λ (l : List ℕ). return_part (alphabet_of g) l (slice_get g.acts call) p) i ∙ sym (back_goes g (kept_graph g k) a p call targets h e).is
