-- What the functions on parts owe, over plain values.
use Rattle.std.proofs.Common.{◌≡◌, ℕ, zero, suc, ◌+◌, ◌≤◌, List, [], ◌∷◌, ◌++◌, map, length, take, drop, Option, None, Some, Result, Ok, Err, ap, refl, sym, ◌∙◌, subst, arith, slice_get, append_assoc, append-nil}
use Rattle.std.specs.Prelude.{IfOk, IfSome}
use Rattle.std.specs.List.{AllByRecursion}
use Rattle.std.specs.Option.{option_or, option_map}
use Rattle.std.specs.declared.alloc.AllocError.{AllocError}
use Rattle.std.proofs.lemmas.Option.{none-some, same_Some}
use Rattle.outer_io.specs.Texts.{text_named}
use Rattle.typed_tree.specs.TypedTree.{TypedProgram}
use Rattle.boogie_run.specs.RunRules.Runs.{IsSafe}
use Rattle.letter_acts.specs.Invariant.{Graph}
use Rattle.lowered_graph.specs.Items.{ItemFault, first_fault}
use Rattle.lowered_graph.specs.Lowered.{lowered}
use Rattle.modular_cut.specs.declared.cutting.Part.{Part}
use Rattle.modular_cut.specs.Parts.{PlainPart, parts_of}
use Rattle.modular_cut.specs.View.{plain_part}
use Rattle.race_core.specs.Races.{Race}
use Rattle.itp_automaton.specs.Certified.{Certificate}
use Rattle.race_rounds.specs.declared.limits.Limits.{Limits}
use Rattle.automizer_top.specs.declared.answer.Answer as code
use Rattle.automizer_top.specs.declared.parts.LoweredParts.{LoweredParts}
use Rattle.automizer_top.specs.declared.parts.Left.{Left}
use Rattle.automizer_top.specs.PartTexts.{part_line, text_behind, front_text, rest_text}
use Rattle.text_reports.specs.ReportTexts.{Answer}
use Rattle.text_reports.specs.Answers.{IsGraphOf, TextIsSafe}
use Rattle.automizer_top.specs.Ties.Answers.{answered}
use Rattle.automizer_top.specs.Report.{second_limit, refused, of_typed, IsTypedText, RefusesTyped, RefusesLowering, ReportsSecond, ReportsVerdict}
use Rattle.automizer_top.specs.Parts.{ReportsCut, free, of_parts, first_part_fault, ReportsLoweredParts, part_unlowered, parts_lowered, AreSafe, part_texts, races_of, ReportsParts, ReportsVerifyParts, ProvesPart, RejectsPart, no_part_annotation, part_rejected, ChecksPart, no_part_line, wrong_part, right_part, ChecksParts, ReportsPartProofs, ReportsCheckParts, part_in, ReportsPartFailure, ReportsReplayParts}
use Rattle.automizer_top.specs.Ties.PartViews.{AreParts, RefusesFree, AreGraphsOf, HaveNoErrorWord, RefusesUnlowered, RefusesParts, IsLoweredText, JudgesPart, ChecksOn}
use Rattle.text_reports.proofs.SafetyLaws.{graph_is_safe}
use Rattle.text_reports.proofs.TypedTexts.{one_typed}
use Rattle.text_reports.proofs.RefusalLaws.{typed_is_three}

-- ---- graphs of parts

-- parts with graphs can be lowered
pub graphs_lower : (ps : List PlainPart) (gs : List Graph) → AreGraphsOf ps gs → first_part_fault ps ≡ None
graphs_lower [] gs h = refl
graphs_lower (p ∷ ps) [] h = absurd h
graphs_lower (p ∷ ps) (g ∷ gs) h = ap (λ (o : Option ItemFault). option_or o (first_part_fault ps)) h.0.fits ∙ graphs_lower ps gs h.1

-- one part more, with its graph
pub graphs_more : (ps : List PlainPart) (gs : List Graph) (p : PlainPart) (g : Graph) → AreGraphsOf ps gs → IsGraphOf p.program g → AreGraphsOf (ps ++ p ∷ []) (gs ++ g ∷ [])
graphs_more [] [] p g h k = (k, tt)
graphs_more [] (x ∷ gs) p g h k = absurd h
graphs_more (q ∷ ps) [] p g h k = absurd h
graphs_more (q ∷ ps) (x ∷ gs) p g h k = (h.0, graphs_more ps gs p g h.1 k)

fault_by : (o m whole : Option ItemFault) (f : ItemFault) → option_or o m ≡ None → (m ≡ None → whole ≡ Some f) → option_or o whole ≡ Some f
fault_by None m whole f e more = more e
fault_by (Some x) m whole f e more = absurd (none-some x (sym e))

fault_behind : (ps qs : List PlainPart) (p : PlainPart) (f : ItemFault) → first_part_fault ps ≡ None → first_fault p.program ≡ Some f → first_part_fault (ps ++ p ∷ qs) ≡ Some f
fault_behind [] qs p f none first = ap (λ (o : Option ItemFault). option_or o (first_part_fault qs)) first
fault_behind (q ∷ ps) qs p f none first =
    fault_by (first_fault q.program) (first_part_fault ps) (first_part_fault (ps ++ p ∷ qs)) f none (λ e. fault_behind ps qs p f e first)

-- the first that cannot be lowered stands behind those with graphs
pub unlowered_at : (ps qs : List PlainPart) (gs : List Graph) (p : PlainPart) (a : Answer) → AreGraphsOf ps gs → RefusesLowering p.program a → RefusesUnlowered (ps ++ p ∷ qs) a
unlowered_at ps qs gs p a h r = (r.fault, fault_behind ps qs p r.fault (graphs_lower ps gs h) r.first, r.is)

-- the graph with a number is that of the part with that number
pub graph_at : (ps : List PlainPart) (gs : List Graph) (n : ℕ) (p : PlainPart) (g : Graph) → AreGraphsOf ps gs → slice_get ps n ≡ Some p → slice_get gs n ≡ Some g → IsGraphOf p.program g
graph_at [] gs n p g h e f = absurd (none-some p e)
graph_at (q ∷ ps) [] n p g h e f = absurd h
graph_at (q ∷ ps) (x ∷ gs) zero p g h e f =
    subst (λ (y : Graph). IsGraphOf p.program y) (same_Some x g f) (subst (λ (r : PlainPart). IsGraphOf r.program x) (same_Some q p e) h.0)
graph_at (q ∷ ps) (x ∷ gs) (suc n) p g h e f = graph_at ps gs n p g h.1 e f

pub graphs_as_many : (ps : List PlainPart) (gs : List Graph) → AreGraphsOf ps gs → length gs ≡ length ps
graphs_as_many [] [] h = refl
graphs_as_many [] (g ∷ gs) h = absurd h
graphs_as_many (p ∷ ps) [] h = absurd h
graphs_as_many (p ∷ ps) (g ∷ gs) h = ap suc (graphs_as_many ps gs h.1)

-- a program is safe where no graph of its parts has an error word
each_is_safe : (ps : List PlainPart) (gs : List Graph) → AreGraphsOf ps gs → HaveNoErrorWord gs → AllByRecursion (λ p. IsSafe p.program) ps
each_is_safe [] gs h none = tt
each_is_safe (p ∷ ps) [] h none = absurd h
each_is_safe (p ∷ ps) (g ∷ gs) h none = (graph_is_safe p.program g h.0 none.0, each_is_safe ps gs h.1 none.1)

pub lowered_is_safe : (entry text : List ℕ) (l : LoweredParts) → IsLoweredText entry text l → HaveNoErrorWord l.graphs.items → TextIsSafe entry text
lowered_is_safe entry text l h none = λ u w.
    let safe : IsSafe h.0 = h.2.suffice (each_is_safe (map plain_part l.parts.items) l.graphs.items h.3 none) in
    subst IsSafe (sym (one_typed entry text h.0 u h.1 w)) safe

-- ---- what is answered to a text without parts with graphs

refused_cut : (t : TypedProgram) (to_parts to_other : List PlainPart → Answer → Type 0) (a : Answer) → ((ps : List PlainPart) → to_parts ps a → to_other ps a) → ReportsCut t to_parts a → ReportsCut t to_other a
refused_cut t to_parts to_other a h (free at first is) = free at first is
refused_cut t to_parts to_other a h (of_parts none r) = of_parts none (h (parts_of t) r)

refused_lowered : (ps : List PlainPart) (X : Answer → Type 0) (a : Answer) → ReportsLoweredParts ps (λ b. ⊥) a → ReportsLoweredParts ps X a
refused_lowered ps X a (part_unlowered f first is) = part_unlowered f first is
refused_lowered ps X a (parts_lowered none r) = absurd r

pub refused_verify : (entry text : List ℕ) (l : Limits) (a : Answer) → RefusesParts entry text a → ReportsVerifyParts entry l text a
refused_verify entry text l a (refused r) = refused r
refused_verify entry text l a (of_typed t w r) =
    of_typed t w (refused_cut t (λ ps. ReportsLoweredParts ps (λ b. ⊥)) (λ ps. ReportsLoweredParts ps (λ b. ReportsParts l ps b × (length b.bytes ≤ second_limit))) a
    (λ ps. refused_lowered ps (λ b. ReportsParts l ps b × (length b.bytes ≤ second_limit)) a) r)

pub refused_check : (entry text : List ℕ) (second : Option (List ℕ)) (a : Answer) → RefusesParts entry text a → ReportsCheckParts entry text second a
refused_check entry text second a (refused r) = refused r
refused_check entry text second a (of_typed t w r) =
    of_typed t w (refused_cut t (λ ps. ReportsLoweredParts ps (λ b. ⊥)) (λ ps. ReportsLoweredParts ps (ReportsSecond second (ReportsPartProofs ps))) a
    (λ ps. refused_lowered ps (ReportsSecond second (ReportsPartProofs ps)) a) r)

pub refused_is_three : (entry text : List ℕ) (a : Answer) → RefusesParts entry text a → a.status ≡ 3
refused_is_three entry text a (refused r) = typed_is_three entry text a r
refused_is_three entry text a (of_typed t w (free at first is)) = ap (λ (b : Answer). b.status) is
refused_is_three entry text a (of_typed t w (of_parts none (part_unlowered f first is))) = ap (λ (b : Answer). b.status) is
refused_is_three entry text a (of_typed t w (of_parts none (parts_lowered lowers r))) = absurd r

-- ---- what is answered to parts with their graphs

-- a cut program, told by its parts
of_cut : (t : TypedProgram) (ps : List Part) (to_parts : List PlainPart → Answer → Type 0) (a : Answer) → AreParts t ps → to_parts (map plain_part ps) a → ReportsCut t to_parts a
of_cut t ps to_parts a h r = of_parts h.none_free (subst (λ (qs : List PlainPart). to_parts qs a) h.value r)

pub free_refused : (t : TypedProgram) (to_parts : List PlainPart → Answer → Type 0) (a : Answer) → RefusesFree t a → ReportsCut t to_parts a
free_refused t to_parts a h = free h.0 h.1 h.2

pub free_is_three : (t : TypedProgram) (a : Answer) → RefusesFree t a → a.status ≡ 3
free_is_three t a h = ap (λ (b : Answer). b.status) h.2

pub typed_refused : (entry text : List ℕ) (a : Answer) → RefusesTyped entry text a → RefusesParts entry text a
typed_refused entry text a r = refused r

pub cut_refused : (entry text : List ℕ) (t : TypedProgram) (a : Answer) → IsTypedText entry text t → RefusesFree t a → RefusesParts entry text a
cut_refused entry text t a w h = of_typed t w (free_refused t (λ ps. ReportsLoweredParts ps (λ b. ⊥)) a h)

pub unlowered_refused : (entry text : List ℕ) (t : TypedProgram) (ps : List Part) (a : Answer) → IsTypedText entry text t → AreParts t ps → RefusesUnlowered (map plain_part ps) a → RefusesParts entry text a
unlowered_refused entry text t ps a w h r = of_typed t w (of_cut t ps (λ qs. ReportsLoweredParts qs (λ b. ⊥)) a h (part_unlowered r.0 r.1 r.2))

pub verify_answered : (entry text : List ℕ) (l : Limits) (p : LoweredParts) (r : Result code.Answer AllocError) → IsLoweredText entry text p →
    IfOk r (λ a. ReportsParts l (map plain_part p.parts.items) (answered a)) → IfOk r (λ a. length (answered a).bytes ≤ second_limit) → IfOk r (λ a. ReportsVerifyParts entry l text (answered a))
verify_answered entry text l p (Ok a) h v few =
    of_typed h.0 h.1 (of_cut h.0 p.parts.items (λ ps. ReportsLoweredParts ps (λ b. ReportsParts l ps b × (length b.bytes ≤ second_limit))) (answered a) h.2
    (parts_lowered (graphs_lower (map plain_part p.parts.items) p.graphs.items h.3) (v, few)))
verify_answered entry text l p (Err e) h v few = tt

pub check_answered : (entry text : List ℕ) (second : Option (List ℕ)) (p : LoweredParts) (a : Answer) → IsLoweredText entry text p →
    ReportsSecond second (ReportsPartProofs (map plain_part p.parts.items)) a → ReportsCheckParts entry text second a
check_answered entry text second p a h r =
    of_typed h.0 h.1 (of_cut h.0 p.parts.items (λ ps. ReportsLoweredParts ps (ReportsSecond second (ReportsPartProofs ps))) a h.2
    (parts_lowered (graphs_lower (map plain_part p.parts.items) p.graphs.items h.3) r))

pub replay_answered : (entry text : List ℕ) (second : Option (List ℕ)) (t : TypedProgram) (ps : List Part) (a : Answer) → IsTypedText entry text t → AreParts t ps →
    ReportsSecond second (ReportsPartFailure (map plain_part ps)) a → ReportsReplayParts entry text second a
replay_answered entry text second t ps a w h r = of_typed t w (of_cut t ps (λ qs. ReportsSecond second (ReportsPartFailure qs)) a h r)

-- ---- the same of the texts of a shelf, where it tells them

abbrev Texts : Type 0
Texts = List (List ℕ × List ℕ)

pub refused_reported : (entry text name : List ℕ) (a : Answer) (texts : Option Texts) → RefusesParts entry text a → IfSome texts (λ shown. ReportsCheckParts entry text (text_named name shown) a)
refused_reported entry text name a None r = tt
refused_reported entry text name a (Some shown) r = refused_check entry text (text_named name shown) a r

pub check_reported : (entry text name : List ℕ) (p : LoweredParts) (a : Answer) (texts : Option Texts) → IsLoweredText entry text p →
    IfSome texts (λ shown. ReportsSecond (text_named name shown) (ReportsPartProofs (map plain_part p.parts.items)) a) →
    IfSome texts (λ shown. ReportsCheckParts entry text (text_named name shown) a)
check_reported entry text name p a None h r = tt
check_reported entry text name p a (Some shown) h r = check_answered entry text (text_named name shown) p a h r

pub typed_unreplayed : (entry text name : List ℕ) (a : Answer) (texts : Option Texts) → RefusesTyped entry text a → IfSome texts (λ shown. ReportsReplayParts entry text (text_named name shown) a)
typed_unreplayed entry text name a None r = tt
typed_unreplayed entry text name a (Some shown) r = refused r

pub free_unreplayed : (entry text name : List ℕ) (t : TypedProgram) (a : Answer) (texts : Option Texts) → IsTypedText entry text t → RefusesFree t a →
    IfSome texts (λ shown. ReportsReplayParts entry text (text_named name shown) a)
free_unreplayed entry text name t a None w h = tt
free_unreplayed entry text name t a (Some shown) w h = of_typed t w (free_refused t (λ ps. ReportsSecond (text_named name shown) (ReportsPartFailure ps)) a h)

pub replay_reported : (entry text name : List ℕ) (t : TypedProgram) (ps : List Part) (a : Answer) (texts : Option Texts) → IsTypedText entry text t → AreParts t ps →
    IfSome texts (λ shown. ReportsSecond (text_named name shown) (ReportsPartFailure (map plain_part ps)) a) → IfSome texts (λ shown. ReportsReplayParts entry text (text_named name shown) a)
replay_reported entry text name t ps a None w h r = tt
replay_reported entry text name t ps a (Some shown) w h r = replay_answered entry text (text_named name shown) t ps a w h r

-- ---- verdicts, part by part

-- one part more that is safe
pub safe_more : (l : Limits) (ps : List PlainPart) (bs : List Answer) (p : PlainPart) (b : Answer) → AreSafe l ps bs → ReportsVerdict None l p.program b → b.status ≡ 0 → AreSafe l (ps ++ p ∷ []) (bs ++ b ∷ [])
safe_more l [] [] p b h v z = (v, z, tt)
safe_more l [] (c ∷ bs) p b h v z = absurd h
safe_more l (q ∷ ps) [] p b h v z = absurd h
safe_more l (q ∷ ps) (c ∷ bs) p b h v z = (h.0, h.1, safe_more l ps bs p b h.2 v z)

pub texts_more : (l : Limits) (ps : List PlainPart) (bs : List Answer) (p : PlainPart) (b : Answer) → AreSafe l ps bs →
    part_texts (ps ++ p ∷ []) (bs ++ b ∷ []) ≡ part_texts ps bs ++ (part_line p.name ++ b.bytes)
texts_more l [] [] p b h = ap (λ (x : List ℕ). part_line p.name ++ x) (append-nil b.bytes)
texts_more l [] (c ∷ bs) p b h = absurd h
texts_more l (q ∷ ps) [] p b h = absurd h
texts_more l (q ∷ ps) (c ∷ bs) p b h =
    ap (λ (x : List ℕ). part_line q.name ++ (c.bytes ++ x)) (texts_more l ps bs p b h.2)
    ∙ ap (λ (x : List ℕ). part_line q.name ++ x) (sym (append_assoc c.bytes (part_texts ps bs) (part_line p.name ++ b.bytes)))
    ∙ sym (append_assoc (part_line q.name) (c.bytes ++ part_texts ps bs) (part_line p.name ++ b.bytes))

pub races_more : (bs : List Answer) (b : Answer) → races_of (bs ++ b ∷ []) ≡ races_of bs ++ b.races
races_more [] b = append-nil b.races
races_more (c ∷ bs) b = ap (λ (rs : List (Race Certificate)). c.races ++ rs) (races_more bs b) ∙ sym (append_assoc c.races (races_of bs) b.races)

-- ---- annotations, part by part

-- what is wrong in a part is answered, whatever is answered to the rest
pub judges_any : (p : PlainPart) (left : Left) (to_rest : ℕ → List ℕ → Answer → Type 0) (a : Answer) → JudgesPart p left a → ChecksPart p left.before left.text.now to_rest a
judges_any p left to_rest a (no_part_line none is) = no_part_line none is
judges_any p left to_rest a (wrong_part text e r) = wrong_part text e r
judges_any p left to_rest a (right_part text e h r) = absurd r

rejects_is_one : (g : Graph) (before : ℕ) (text : List ℕ) (a : Answer) → RejectsPart g before text a → a.status ≡ 1
rejects_is_one g before text a (no_part_annotation line wrong is) = ap (λ (b : Answer). b.status) is
rejects_is_one g before text a (part_rejected coarse w line cause s f is) = ap (λ (b : Answer). b.status) is

pub judges_is_one : (p : PlainPart) (left : Left) (a : Answer) → JudgesPart p left a → a.status ≡ 1
judges_is_one p left a (no_part_line none is) = ap (λ (b : Answer). b.status) is
judges_is_one p left a (wrong_part text e r) = rejects_is_one (lowered p.program) (left.before + 1) (front_text text) a r
judges_is_one p left a (right_part text e h r) = absurd r

-- a part that is right leads on
pub goes_on : (p : PlainPart) (g : Graph) (ps : List PlainPart) (left next : Left) (a : Answer) → g ≡ lowered p.program → ChecksOn p g left next → ChecksParts ps next.before next.text.now a →
    ChecksParts (p ∷ ps) left.before left.text.now a
goes_on p g ps left next a same c r =
    right_part c.text c.line (subst (λ (x : Graph). ProvesPart x (front_text c.text)) same c.proved)
    (subst (λ (n : ℕ). ChecksParts ps n (rest_text c.text) a) c.before (subst (λ (x : List ℕ). ChecksParts ps next.before x a) c.rest r))

-- ---- lists

next : (n : ℕ) → n + 1 ≡ suc n
next n = omega arith

drop_after : {X : Type 0} (xs : List X) (n : ℕ) (x : X) → slice_get xs n ≡ Some x → drop n xs ≡ x ∷ drop (suc n) xs
drop_after [] n x e = absurd (none-some x e)
drop_after (y ∷ xs) zero x e = λ i. same_Some y x e i ∷ xs
drop_after (y ∷ xs) (suc n) x e = drop_after xs n x e

pub drop_at : {X : Type 0} (xs : List X) (n : ℕ) (x : X) → slice_get xs n ≡ Some x → drop n xs ≡ x ∷ drop (n + 1) xs
drop_at xs n x e = drop_after xs n x e ∙ (λ i. x ∷ drop (sym (next n) i) xs)

take_after : {X : Type 0} (xs : List X) (n : ℕ) (x : X) → slice_get xs n ≡ Some x → take (suc n) xs ≡ take n xs ++ x ∷ []
take_after [] n x e = absurd (none-some x e)
take_after (y ∷ xs) zero x e = λ i. same_Some y x e i ∷ []
take_after (y ∷ xs) (suc n) x e = λ i. y ∷ take_after xs n x e i

pub take_at : {X : Type 0} (xs : List X) (n : ℕ) (x : X) → slice_get xs n ≡ Some x → take (n + 1) xs ≡ take n xs ++ x ∷ []
take_at xs n x e = (λ i. take (next n i) xs) ∙ take_after xs n x e

split_after : {X : Type 0} (xs : List X) (n : ℕ) (x : X) → slice_get xs n ≡ Some x → xs ≡ take n xs ++ x ∷ drop (suc n) xs
split_after [] n x e = absurd (none-some x e)
split_after (y ∷ xs) zero x e = λ i. same_Some y x e i ∷ xs
split_after (y ∷ xs) (suc n) x e = λ i. y ∷ split_after xs n x e i

pub split_at : {X : Type 0} (xs : List X) (n : ℕ) (x : X) → slice_get xs n ≡ Some x → xs ≡ take n xs ++ x ∷ drop (n + 1) xs
split_at xs n x e = split_after xs n x e ∙ (λ i. take n xs ++ x ∷ drop (sym (next n) i) xs)

pub all_more : {X : Type 0} (P : X → Type 0) (xs : List X) (x : X) → AllByRecursion P xs → P x → AllByRecursion P (xs ++ x ∷ [])
all_more P [] x h k = (k, tt)
all_more P (y ∷ xs) x h k = (h.0, all_more P xs x h.1 k)

pub get_map : {X Y : Type 0} (f : X → Y) (xs : List X) (n : ℕ) (x : X) → slice_get xs n ≡ Some x → slice_get (map f xs) n ≡ Some (f x)
get_map f [] n x e = absurd (none-some x e)
get_map f (y ∷ xs) zero x e = λ i. Some (f (same_Some y x e i))
get_map f (y ∷ xs) (suc n) x e = get_map f xs n x e

-- ---- the part that a text names

-- the line of none of the first parts stands there
pub part_in_at : (ps : List PlainPart) (text : List ℕ) (n : ℕ) (p : PlainPart) → slice_get ps n ≡ Some p → part_in (drop n ps) text ≡ option_or (option_map (λ r. (p, r)) (text_behind (part_line p.name) text)) (part_in (drop (n + 1) ps) text)
part_in_at ps text n p e = ap (λ (qs : List PlainPart). part_in qs text) (drop_at ps n p e)
