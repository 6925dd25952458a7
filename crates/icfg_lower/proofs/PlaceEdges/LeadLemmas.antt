-- How the edges of lists add up, and what is wrong with several lists together.
use Rattle.std.proofs.Common.{◌≡◌, ◌∙◌, ℕ, zero, suc, ◌+◌, ◌<◌, Bool, true, false, not, ◌||◌, List, [], ◌∷◌, ◌++◌, map, length, get_or, take, refl, sym, ap, subst, Ok, Err, Some, arith}
use Rattle.std.proofs.lemmas.List.{take_more}
use Rattle.std.specs.Prelude.{Result, IfOk, IsOk, Vec}
use Rattle.std.specs.Global.{Global}
use Rattle.std.specs.List.{list_any, AllByRecursion}
use Rattle.boogie_tree.specs.declared.tree.VarInfo.{VarInfo}
use Rattle.typed_tree.specs.TypedTree.{TypedExpression, TypedProcedure, TypedProgram}
use Rattle.letter_acts.specs.Frames.{Columns}
use Rattle.letter_acts.specs.Acts.{call_act, inside_act}
use Rattle.letter_acts.specs.LetterTable.Letters.{Arc, Lettered, call_arc, inside_arc, with_arc, with_arcs}
use Rattle.cond_jumps.specs.Conjunctions.{is_wide, all_fit}
use Rattle.cond_jumps.specs.declared.free_products.letters.MarkedConj.{MarkedConj}
use Rattle.cond_jumps.specs.FreeProducts.Letters.{MarkedConjunction}
use Rattle.cond_jumps.specs.FreeProducts.LetterView.{marked, all_marked}
use Rattle.lowered_graph.specs.Items.{Needed, import_needed}
use Rattle.lowered_graph.specs.LoweredParts.Parts.{Walked, Leads, IsTrouble, some_is_wide, some_is_big}
use Rattle.lowered_graph.specs.LoweredParts.Lists.{entered_arcs, list_arcs}
use Rattle.cond_jumps.specs.declared.fault.JumpFault.{JumpFault}
use Rattle.cond_jumps.specs.declared.fault.JumpFault.TheVariants.{TooWide, TooBig, Memory}
use Rattle.icfg_lower.specs.declared.place_edges.faults.Trouble.{Trouble}
use Rattle.icfg_lower.specs.PlaceEdges.Ties.Answered.{IsAnswer, IsImported, IsMade, IsPassed, IsRefused, IsTold, ensures_needed}
use Rattle.icfg_lower.specs.declared.call_jumps.imports.Import.{Import}
use Rattle.lowered_graph.specs.LoweredSteps.Edges.{import_letters, import_written}
use Rattle.icfg_lower.specs.declared.program_layout.marks.Marks.{Marks}

pub arcs_joined : (d : Lettered) (xs ys : List Arc) → with_arcs d (xs ++ ys) ≡ with_arcs (with_arcs d xs) ys
arcs_joined d [] ys = refl
arcs_joined d (x ∷ xs) ys = arcs_joined (with_arc d x) xs ys

-- one letter more of a list
pub letter_joined : (d : Lettered) (n place to : ℕ) (written : List ℕ) (ls : List MarkedConj) (l : MarkedConj) →
    with_arcs d (list_arcs n place written (all_marked (ls ++ l ∷ [])) to)
    ≡ with_arc (with_arcs d (list_arcs n place written (all_marked ls) to)) (inside_arc place (record { act = inside_act n written (marked l).plain.helpers (marked l).plain.rows; coarse = l.coarse }) to)
letter_joined d n place to written [] l = refl
letter_joined d n place to written (x ∷ xs) l =
    letter_joined (with_arc d (inside_arc place (record { act = inside_act n written (marked x).plain.helpers (marked x).plain.rows; coarse = x.coarse }) to)) n place to written xs l

apart : false ≡ true → ⊥
apart e = cc

-- ---- what is wrong with several lists

any_joined : (xs ys : List Needed) (f : Needed → Bool) → list_any f (xs ++ ys) ≡ (list_any f xs || list_any f ys)
any_joined [] ys f = refl
any_joined (x ∷ xs) ys f = by_first (f x) (list_any f xs) (list_any f ys) (list_any f (xs ++ ys)) (any_joined xs ys f)
  where
    by_first : (a b c d : Bool) → d ≡ (b || c) → (a || d) ≡ ((a || b) || c)
    by_first true b c d e = refl
    by_first false b c d e = e

first_false : (a b : Bool) → (a || b) ≡ false → a ≡ false
first_false true b e = cc
first_false false b e = refl

second_false : (a b : Bool) → (a || b) ≡ false → b ≡ false
second_false true b e = cc
second_false false b e = e

pub trouble_joined : (ns ms : List Needed) (w v b c : Bool) → IsTrouble ns w b → IsTrouble ms v c → IsTrouble (ns ++ ms) (w || v) (b || c)
trouble_joined ns ms w v b c s t = record {
  wide = ap (λ x. x || v) s.wide ∙ (ap (λ x. some_is_wide ns || x) t.wide ∙ sym (any_joined ns ms (λ n. is_wide n.plan n.base)));
  big = λ e. ap (λ x. x || c) (s.big (first_false w v e))
      ∙ (ap (λ x. some_is_big ns || x) (t.big (second_false w v e)) ∙ sym (any_joined ns ms (λ n. not (all_fit n.plan n.base))));
}

-- one part after another
pub leads_joined : (xs ys : List Arc) (ns ms : List Needed) (w v b c : Bool) (old mid new : Walked) → Leads xs ns w b old mid → Leads ys ms v c mid new →
    Leads (xs ++ ys) (ns ++ ms) (w || v) (b || c) old new
leads_joined xs ys ns ms w v b c old mid new l m = record {
  trouble = trouble_joined ns ms w v b c l.trouble m.trouble;
  program = m.program ∙ l.program;
  sites = m.sites ∙ l.sites;
  fault = m.fault ∙ l.fault;
  edges = λ e f. m.edges (second_false w v e) (second_false b c f)
      ∙ (ap (λ d. with_arcs d ys) (l.edges (first_false w v e) (first_false b c f)) ∙ sym (arcs_joined old.lettered xs ys));
}

-- and the second said of the program that it finds
pub leads_then : (xs : List Arc) (ys : TypedProgram → List Arc) (ns : List Needed) (ms : TypedProgram → List Needed) (w v b c x y : Bool) (old mid new : Walked) →
    x ≡ (w || v) → y ≡ (b || c) → Leads xs ns w b old mid → Leads (ys mid.program) (ms mid.program) v c mid new → Leads (xs ++ ys old.program) (ns ++ ms old.program) x y old new
leads_then xs ys ns ms w v b c x y old mid new e f l m =
    let second : Leads (ys old.program) (ms old.program) v c mid new = subst (λ (t : TypedProgram). Leads (ys t) (ms t) v c mid new) l.program m in
    let both : Leads (xs ++ ys old.program) (ns ++ ms old.program) (w || v) (b || c) old new =
    leads_joined xs (ys old.program) ns (ms old.program) w v b c old mid new l second in
    let wide : Leads (xs ++ ys old.program) (ns ++ ms old.program) x (b || c) old new =
    subst (λ (z : Bool). Leads (xs ++ ys old.program) (ns ++ ms old.program) z (b || c) old new) (sym e) both in
    subst (λ (z : Bool). Leads (xs ++ ys old.program) (ns ++ ms old.program) x z old new) (sym f) wide

-- ---- one list

pub answered : (ls : List MarkedConjunction) (k : Needed) (r : Result (Vec MarkedConj Global) JumpFault) → IfOk r (λ v. all_marked v.items ≡ ls) →
    (IsOk r → is_wide k.plan k.base ≡ false) → (IsOk r → all_fit k.plan k.base ≡ true) → (r ≡ Err TooWide → is_wide k.plan k.base ≡ true) →
    (r ≡ Err TooBig → (is_wide k.plan k.base ≡ false) × (all_fit k.plan k.base ≡ false)) → IsAnswer ls k r
answered ls k (Ok v) l n f w b = (l, (n refl, f refl))
answered ls k (Err TooWide) l n f w b = w refl
answered ls k (Err TooBig) l n f w b = b refl
answered ls k (Err Memory) l n f w b = tt

-- the letter of a call, which is one member
pub passed : (ls : List MarkedConjunction) (k : Needed) (r : Result MarkedConj JumpFault) → IfOk r (λ c. marked c ∷ [] ≡ ls) → (IsOk r → is_wide k.plan k.base ≡ false) →
    (IsOk r → all_fit k.plan k.base ≡ true) → (r ≡ Err TooWide → ⊥) → (r ≡ Err TooBig → (is_wide k.plan k.base ≡ false) × (all_fit k.plan k.base ≡ false)) → IsPassed ls k r
passed ls k (Ok c) l n f w b = (l, (n refl, f refl))
passed ls k (Err TooWide) l n f w b = absurd (w refl)
passed ls k (Err TooBig) l n f w b = b refl
passed ls k (Err Memory) l n f w b = tt

-- said of a frame and a number that are these
pub at_frame : (P : Columns → ℕ → Type 0) (f g : Columns) (m n : ℕ) → f ≡ g → m ≡ n → P f m → P g n
at_frame P f g m n e d h = subst (λ (k : ℕ). P g k) d (subst (λ (x : Columns). P x m) e h)

-- edges by a list with which nothing is wrong
pub led : (xs : List Arc) (k : Needed) (old new : Walked) → IsMade k → new ≡ record old { lettered = with_arcs old.lettered xs } → Leads xs (k ∷ []) false false old new
led xs k old new m e = record {
  trouble = record {
    wide = sym (ap (λ x. x || false) m.0);
    big = λ h. sym (ap (λ x. not x || false) m.1);
  };
  program = ap (λ w. w.program) e;
  sites = ap (λ w. w.sites) e;
  fault = ap (λ w. w.fault) e;
  edges = λ h i. ap (λ w. w.lettered) e;
}

-- no edges by a list that was not made
pub not_led : (xs : List Arc) (k : Needed) (f : JumpFault) (x : Trouble) (old : Walked) → IsRefused k f → IsTold f x → Leads xs (k ∷ []) x.wide x.big old old
not_led xs k TooWide x old r t = record {
  trouble = record {
    wide = t.0 ∙ sym (ap (λ z. z || false) r);
    big = λ h. absurd (apart (sym h ∙ t.0));
  };
  program = refl;
  sites = refl;
  fault = refl;
  edges = λ h i. absurd (apart (sym h ∙ t.0));
}
not_led xs k TooBig x old r t = record {
  trouble = record {
    wide = t.0 ∙ sym (ap (λ z. z || false) r.0);
    big = λ h. t.1 ∙ sym (ap (λ z. not z || false) r.1);
  };
  program = refl;
  sites = refl;
  fault = refl;
  edges = λ h i. absurd (apart (sym i ∙ t.1));
}
not_led xs k Memory x old r t = absurd t

-- ---- lists of columns

pub each_of : {X : Type 0} (P : X → Type 0) (xs : List X) (i : ℕ) (d : X) → i < length xs → AllByRecursion P xs → P (get_or xs i d)
each_of P [] i d h a = absurd (omega arith)
each_of P (x ∷ xs) zero d h a = a.0
each_of P (x ∷ xs) (suc i) d h a = each_of P xs i d (omega arith) a.1

map_joined : {X Y : Type 0} (f : X → Y) (xs : List X) (y : X) → map f (xs ++ y ∷ []) ≡ map f xs ++ f y ∷ []
map_joined f [] y = refl
map_joined f (x ∷ xs) y = ap (λ zs. f x ∷ zs) (map_joined f xs y)

pub one_more : {X Y : Type 0} (f : X → Y) (xs : List X) (i : ℕ) (d : X) → i < length xs → map f (take (i + 1) xs) ≡ map f (take i xs) ++ f (get_or xs i d) ∷ []
one_more f xs i d h = ap (map f) (take_more xs i d h) ∙ map_joined f (take i xs) (get_or xs i d)

-- ---- calls

pub told_refused : {E : Type 0} (xs : List Arc) (k : Needed) (f : JumpFault) (r : Result Trouble E) (old : Walked) → IsRefused k f → IfOk r (IsTold f) →
    IfOk r (λ x. Leads xs (k ∷ []) x.wide x.big old old)
told_refused xs k f (Ok x) old h t = not_led xs k f x old h t
told_refused xs k f (Err e) old h t = tt

-- a call by its one letter
pub entered : (n f place after : ℕ) (c : MarkedConjunction) (ls : List MarkedConjunction) (m l : Marks) (us ts : List ℕ) (k : Needed) (old new : Walked) →
    c ∷ [] ≡ ls → m ≡ l → us ≡ ts → IsMade k →
    new ≡ record old { lettered = with_arc old.lettered (call_arc place (record { act = call_act n f c.plain.helpers c.plain.rows; coarse = c.coarse }) m.entry m.returns us after) } →
    Leads (entered_arcs n f place l.entry l.returns ts after ls) (k ∷ []) false false old new
entered n f place after c ls m l us ts k old new e d u made g =
    let one : Leads (entered_arcs n f place m.entry m.returns us after (c ∷ [])) (k ∷ []) false false old new =
    led (entered_arcs n f place m.entry m.returns us after (c ∷ [])) k old new made g in
    let listed : Leads (entered_arcs n f place m.entry m.returns us after ls) (k ∷ []) false false old new =
    subst (λ (x : List MarkedConjunction). Leads (entered_arcs n f place m.entry m.returns us after x) (k ∷ []) false false old new) e one in
    let marked : Leads (entered_arcs n f place l.entry l.returns us after ls) (k ∷ []) false false old new =
    subst (λ (x : Marks). Leads (entered_arcs n f place x.entry x.returns us after ls) (k ∷ []) false false old new) d listed in
    subst (λ (x : List ℕ). Leads (entered_arcs n f place l.entry l.returns x after ls) (k ∷ []) false false old new) u marked

pub import_answered : (frame : Columns) (m : ℕ) (globals : List VarInfo) (q : TypedProcedure) (args : List TypedExpression) (ts : List ℕ) (r : Result Import JumpFault) →
    IfOk r (λ i. i.written.items ≡ import_written q.modifies ts) → IfOk r (λ i. all_marked i.conjs.items ≡ import_letters frame m globals q args ts) →
    (IsOk r → is_wide (ensures_needed frame m globals q args ts).plan (ensures_needed frame m globals q args ts).base ≡ false) →
    (IsOk r → all_fit (ensures_needed frame m globals q args ts).plan (ensures_needed frame m globals q args ts).base ≡ true) →
    (r ≡ Err TooWide → is_wide (ensures_needed frame m globals q args ts).plan (ensures_needed frame m globals q args ts).base ≡ true) →
    (r ≡ Err TooBig → (is_wide (ensures_needed frame m globals q args ts).plan (ensures_needed frame m globals q args ts).base ≡ false)
    × (all_fit (ensures_needed frame m globals q args ts).plan (ensures_needed frame m globals q args ts).base ≡ false)) →
    IsImported frame m globals q args ts r
import_answered frame m globals q args ts (Ok i) s l n f w b = (s, l, (n refl, f refl))
import_answered frame m globals q args ts (Err TooWide) s l n f w b = w refl
import_answered frame m globals q args ts (Err TooBig) s l n f w b = b refl
import_answered frame m globals q args ts (Err Memory) s l n f w b = tt

-- a call of a procedure without body
pub import_led : (n place after : ℕ) (frame : Columns) (m : ℕ) (globals : List VarInfo) (q : TypedProcedure) (args : List TypedExpression) (us ts written : List ℕ) (ls : List MarkedConjunction)
    (old new : Walked) → us ≡ ts → written ≡ import_written q.modifies us → ls ≡ import_letters frame m globals q args us → IsMade (ensures_needed frame m globals q args us) →
    new ≡ record old { lettered = with_arcs old.lettered (list_arcs n place written ls after) } →
    Leads (list_arcs n place (import_written q.modifies ts) (import_letters frame m globals q args ts) after) (import_needed frame m globals (Some q) args ts) false false old new
import_led n place after frame m globals q args us ts written ls old new u s l made g =
    let given : Leads (list_arcs n place written ls after) (ensures_needed frame m globals q args us ∷ []) false false old new =
    led (list_arcs n place written ls after) (ensures_needed frame m globals q args us) old new made g in
    let listed : Leads (list_arcs n place written (import_letters frame m globals q args us) after) (ensures_needed frame m globals q args us ∷ []) false false old new =
    subst (λ (x : List MarkedConjunction). Leads (list_arcs n place written x after) (ensures_needed frame m globals q args us ∷ []) false false old new) l given in
    let wrote : Leads (list_arcs n place (import_written q.modifies us) (import_letters frame m globals q args us) after) (ensures_needed frame m globals q args us ∷ []) false false old new =
    subst (λ (x : List ℕ). Leads (list_arcs n place x (import_letters frame m globals q args us) after) (ensures_needed frame m globals q args us ∷ []) false false old new) s listed in
    subst
    (λ (x : List ℕ). Leads (list_arcs n place (import_written q.modifies x) (import_letters frame m globals q args x) after) (import_needed frame m globals (Some q) args x) false false old new)
    u wrote
