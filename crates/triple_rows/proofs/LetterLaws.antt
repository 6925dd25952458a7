-- What a graph keeps of its letters gives what the programs of the three systems ask.
use Rattle.std.proofs.Common.{◌≡◌, ◌∙◌, ℕ, ◌+◌, ◌<◌, ◌≤◌, ◌^◌, ◌↔◌, false, ℤ, List, length, Option, Some, slice_get, sym, ap, subst, arith}
use Rattle.std.specs.Prelude.{Result, Ok, Err, IfOk, OnOk}
use Rattle.std.specs.List.{AllByRecursion}
use Rattle.lin_rows.specs.declared.systems.System.{System}
use Rattle.lin_rows.specs.declared.types.RowFault.{RowFault}
use Rattle.lin_rows.specs.Systems.{Meets}
use Rattle.lin_rows.specs.Rows.{LinearRow}
use Rattle.letter_acts.specs.Frames.{Columns, globals_of, olds_of}
use Rattle.letter_acts.specs.Acts.{PlainAct, inside_act, call_act, back_act, Alphabet, frame_of}
use Rattle.letter_acts.specs.Invariant.{Graph, alphabet_of, IsGraph, IsActed, MayWrite, AreDistinct, InsideIsActed, CallIsActed, BackIsActed, BackIsActedFrom, written_by}
use Rattle.letter_acts.specs.Kept.{Keeps}
use Rattle.letter_acts.specs.Known.{FramesAgree}
use Rattle.letter_acts.proofs.ListLemmas.{all_weaker, some_within}
use Rattle.letter_acts.proofs.KnownLemmas.{frames_agree, frames_laid_out}
use Rattle.triple_rows.specs.declared.triples.Scoped.{Scoped}
use Rattle.triple_rows.specs.declared.triples.Triple.{Triple}
use Rattle.triple_rows.specs.Predicates.{Formula, formula_of}
use Rattle.triple_rows.specs.Systems.{IsSystem, back_system}
use Rattle.triple_rows.specs.Ties.Known.{BackIsRead}
use Rattle.triple_rows.specs.Triples.{IsScoped, ReturnAgrees, Agrees, HasTarget, IsValid, return_system_of, system_of}
use Rattle.triple_rows.proofs.ListLaws.{all_at}
use Rattle.triple_rows.proofs.ValidLaws.{system_exact}
use Rattle.triple_rows.proofs.KnownLaws.{back_is_read, globals_within, olds_within}

graph_of : (g : Graph) → Keeps g → IsGraph g
unfolding Keeps
graph_of g h = h

-- ---- inside letters

-- what the program of an inside triple asks, of a frame and written columns given in other words
pub record InsideAsks (frame : Columns) (written : List ℕ) : Type 0 where
  pub distinct : AreDistinct written
  pub exist : AllByRecursion (λ c. c < length frame) written
  pub numbers : length frame + length written ≤ 2 ^ 32

pub inside_asks : (g : Graph) (n p helpers : ℕ) (written slice : List ℕ) (rows : List LinearRow) (frame : Columns) → Keeps g →
    slice_get g.acts n ≡ Some (inside_act p written helpers rows) → frame ≡ frame_of (alphabet_of g) p → slice ≡ written → InsideAsks frame slice
inside_asks g n p helpers written slice rows frame h e f s =
    let al = alphabet_of g in
    let a : InsideIsActed al p written helpers rows = all_at (IsActed al) g.acts n (inside_act p written helpers rows) e (graph_of g h).acts in
    let fit = a.numbers_fit in
    let asks : InsideAsks (frame_of al p) written = record {
      distinct = a.distinct;
      exist = all_weaker (MayWrite (frame_of al p)) (λ c. c < length (frame_of al p))
          (λ c h. some_within (λ v. v.1.constant ≡ false) (frame_of al p) c h) written a.may_write;
      numbers = omega (arith, fit);
    } in
    subst (λ (x : Columns). InsideAsks x slice) (sym f) (subst (InsideAsks (frame_of al p)) (sym s) asks)

-- ---- call letters

pub record CallAsks (caller callee : Columns) : Type 0 where
  pub globals : AllByRecursion (λ c. (c < length callee) × (c < length caller)) (globals_of callee)
  pub olds : AllByRecursion (λ o. (o.0 < length callee) × (o.1 < length caller)) (olds_of callee)
  pub numbers : length caller + length callee ≤ 2 ^ 32

pub call_asks : (g : Graph) (n caller callee helpers : ℕ) (rows : List LinearRow) (x y : Columns) → Keeps g → slice_get g.acts n ≡ Some (call_act caller callee helpers rows) →
    x ≡ frame_of (alphabet_of g) caller → y ≡ frame_of (alphabet_of g) callee → CallAsks x y
call_asks g n caller callee helpers rows x y h e f k =
    let al = alphabet_of g in
    let graph = graph_of g h in
    let a : CallIsActed al caller callee helpers rows = all_at (IsActed al) g.acts n (call_act caller callee helpers rows) e graph.acts in
    let laid = frames_laid_out g graph in
    let agree : FramesAgree (frame_of al callee) (frame_of al caller) =
    frames_agree laid.0 (frame_of al callee) (frame_of al caller) (laid.1 callee a.callee_exists) (laid.1 caller a.caller_exists) in
    let fit = a.numbers_fit in
    let asks : CallAsks (frame_of al caller) (frame_of al callee) = record {
      globals = globals_within (frame_of al caller) (frame_of al callee) agree;
      olds = olds_within (frame_of al caller) (frame_of al callee) agree;
      numbers = omega (arith, fit);
    } in
    subst (λ (z : Columns). CallAsks z y) (sym f) (subst (CallAsks (frame_of al caller)) (sym k) asks)

-- ---- return letters

pub record ReturnAsks (caller callee : Columns) (helpers : ℕ) (rows : List LinearRow) (targets : List ℕ) (exit before to : Scoped) : Type 0 where
  pub known : BackIsRead caller callee helpers rows targets (formula_of exit.pred) (formula_of before.pred) (formula_of to.pred)
  pub numbers : length callee + length caller + length (written_by caller targets) + helpers ≤ 2 ^ 32

pub return_asks : (g : Graph) (n call caller callee helpers : ℕ) (rows slice : List LinearRow) (targets : List ℕ) (x y : Columns) (exit before to : Scoped) → Keeps g →
    slice_get g.acts n ≡ Some (back_act call targets) → slice_get g.acts call ≡ Some (call_act caller callee helpers rows) →
    ReturnAgrees (alphabet_of g) (slice_get g.acts call) exit before to →
    x ≡ frame_of (alphabet_of g) caller → y ≡ frame_of (alphabet_of g) callee → slice ≡ rows → ReturnAsks x y helpers slice targets exit before to
return_asks g n call caller callee helpers rows slice targets x y exit before to h e k r f m s =
    let al = alphabet_of g in
    let graph = graph_of g h in
    let a : CallIsActed al caller callee helpers rows = all_at (IsActed al) g.acts call (call_act caller callee helpers rows) k graph.acts in
    let whole : BackIsActedFrom al targets (slice_get g.acts call) = all_at (IsActed al) g.acts n (back_act call targets) e graph.acts in
    let b : BackIsActed (frame_of al caller) (frame_of al callee) helpers targets = subst (BackIsActedFrom al targets) k whole in
    let p : IsScoped al callee exit × IsScoped al caller before × IsScoped al caller to = subst (λ (o : Option PlainAct). ReturnAgrees al o exit before to) k r in
    let laid = frames_laid_out g graph in
    let asks : ReturnAsks (frame_of al caller) (frame_of al callee) helpers rows targets exit before to = record {
      known = back_is_read laid.0 (frame_of al caller) (frame_of al callee) helpers rows targets (formula_of exit.pred) (formula_of before.pred) (formula_of to.pred)
          (laid.1 caller a.caller_exists) (laid.1 callee a.callee_exists) b a.may_name p.0.over p.1.over p.2.over;
      numbers = b.numbers_fit;
    } in
    subst (λ (z : Columns). ReturnAsks z y helpers slice targets exit before to) (sym f)
    (subst (λ (z : Columns). ReturnAsks (frame_of al caller) z helpers slice targets exit before to) (sym m)
    (subst (λ (rs : List LinearRow). ReturnAsks (frame_of al caller) (frame_of al callee) helpers rs targets exit before to) (sym s) asks))

-- ---- what the programs answer

pub return_system_is : (al : Alphabet) (caller callee helpers : ℕ) (rows slice : List LinearRow) (targets : List ℕ) (x y : Columns) (exit before to : Formula) (o : Option PlainAct) →
    o ≡ Some (call_act caller callee helpers rows) → x ≡ frame_of al caller → y ≡ frame_of al callee → slice ≡ rows →
    back_system x y slice targets exit before to ≡ return_system_of al targets o exit before to
return_system_is al caller callee helpers rows slice targets x y exit before to o e f k s =
    ap (λ (z : Columns). back_system z y slice targets exit before to) f ∙ ap (λ (z : Columns). back_system (frame_of al caller) z slice targets exit before to) k ∙
    ap (λ (rs : List LinearRow). back_system (frame_of al caller) (frame_of al callee) rs targets exit before to) s ∙
    ap (λ (p : Option PlainAct). return_system_of al targets p exit before to) (sym e)

pub exact_where_made : (r : Result System RowFault) (g : Graph) (triple : Triple) → Agrees (alphabet_of g) triple → OnOk r (Keeps g × HasTarget triple) →
    IfOk r (IsSystem (system_of (alphabet_of g) triple)) → IfOk r (λ s. ((point : ℕ → ℤ) → Meets point s → ⊥) ↔ IsValid (alphabet_of g) triple)
exact_where_made (Ok s) g triple a k v = system_exact g triple s (graph_of g k.0) k.1 a v
exact_where_made (Err e) g triple a k v = tt
