-- Calls: the number of the callee, and its arguments as a loop reads them.
use Rattle.std.proofs.Common.{◌≡◌, ℕ, zero, suc, ◌+◌, ◌<◌, Bool, false, true, cond, if◌then◌else◌, List, [], ◌∷◌, ◌++◌, map, length, drop, get_or, Option, None, Some, slice_get, refl, ap, sym, ◌∙◌, append_assoc, arith}
use Rattle.std.specs.Borrow.{Bor}
use Rattle.std.specs.Prelude.{option_and_then}
use Rattle.std.specs.Option.{option_copied, option_map}
use Rattle.std.specs.List.{position_from}
use Rattle.std.specs.Str.{bytes_eq}
use Rattle.std.proofs.lemmas.List.{drop_more, drop_all}
use Rattle.std.proofs.lemmas.Bool.{false≢true}
use Rattle.boogie_tree.specs.declared.span.Span.{Span}
use Rattle.boogie_tree.specs.declared.tree.Expr.{Expr}
use Rattle.boogie_tree.specs.declared.tree.Vary.{Vary}
use Rattle.boogie_tree.specs.Tree.{Expression, Procedure}
use Rattle.boogie_tree.specs.View as view
use Rattle.typed_tree.specs.TypedTree.{TypedExpression, Var, TypedStatement, Assign, Call}
use Rattle.boogie_types.specs.Naming.{NamingPlace, from_both, named, is_hidden, hidden_column, hidden_arguments, named_arguments, put_aside, named_call, procedure_number, params_named, params_if_any, targets_of}
use Rattle.boogie_types.specs.Naming.{expression_span}
use Rattle.boogie_types.specs.Ties.NamingFaults.{IsCallUnknown, callee, target, argument, IsCallFault}
use Rattle.boogie_types.proofs.FaultLaws.{or_memory_to}
use Rattle.typed_tree.specs.declared.fault.TypeFault.{TypeFault}
use Rattle.boogie_tree.specs.declared.tree.Column.{Column}
use Rattle.boogie_tree.specs.declared.tree.Name.{Name}
use Rattle.boogie_types.specs.Ties.Making.{made}
use Rattle.boogie_types.specs.Ties.Numbers.{number_of_name}
use Rattle.boogie_types.specs.Ties.Places.{procedure_texts}
use Rattle.boogie_types.specs.Ties.Referred.{parameter_by}
use Rattle.boogie_types.proofs.ArgumentLaws.{front, behind, together, needed, arguments_turn, aside_turn, count_turn}

position_of_text : (t : List ℕ) (i : ℕ) (ps : List Procedure) → position_from (bytes_eq t) i (procedure_texts ps) ≡ position_from (λ q. bytes_eq t q.name.text) i ps
position_of_text t i [] = refl
position_of_text t i (p ∷ ps) = ap (cond (bytes_eq t p.name.text) (Some i)) (position_of_text t (i + 1) ps)

-- the number of a procedure is the place of its name
pub procedure_place : (t : List ℕ) (names : List (List ℕ)) (ps : List Procedure) → names ≡ procedure_texts ps →
    number_of_name names t ≡ position_from (λ q. bytes_eq t q.name.text) 0 ps
procedure_place t names ps e = ap (λ ns. number_of_name ns t) e ∙ position_of_text t 0 ps

-- the parameter at a place is the first of those from there on
parameter_front : (o : Option (Bor Vary)) (vs : List Vary) (i : ℕ) → option_copied o ≡ slice_get vs i → parameter_by o ≡ front (drop i vs)
parameter_front None [] i e = nothing i
  where
    nothing : (i : ℕ) → [] ≡ front (drop i [])
    nothing zero = refl
    nothing (suc i) = refl
parameter_front None (v ∷ vs) zero e = absurd (false≢true (let x : false ≡ true = cc in x))
parameter_front None (v ∷ vs) (suc i) e = parameter_front None vs i e
parameter_front (Some w) [] i e = absurd (false≢true (let x : false ≡ true = cc in x))
parameter_front (Some w) (v ∷ vs) zero e = let h : w.now ≡ v = cc in ap (λ x. x ∷ []) h
parameter_front (Some w) (v ∷ vs) (suc i) e = parameter_front (Some w) vs i e

drop_behind : (vs : List Vary) (i : ℕ) → drop (i + 1) vs ≡ behind (drop i vs)
drop_behind [] i = drop_all (i + 1) [] (omega arith) ∙ sym (ap behind (drop_all i [] (omega arith)))
drop_behind (v ∷ vs) zero = refl
drop_behind (v ∷ vs) (suc i) =
    let e : suc i + 1 ≡ suc (i + 1) = omega arith in ap (λ k. drop k (v ∷ vs)) e ∙ drop_behind vs i

made_joined : {X : Type 0} (done new : List X) (o rest : Option (List X)) → made done o ≡ Some new → made done (together o rest) ≡ made new rest
made_joined done new None rest e = absurd (false≢true (let x : false ≡ true = cc in x))
made_joined done new (Some ss) None e = refl
made_joined done new (Some ss) (Some ts) e =
    let n : done ++ ss ≡ new = cc in
    ap (λ xs. Some xs) (sym (append_assoc done ss ts) ∙ ap (λ xs. xs ++ ts) n)

module _ (p : NamingPlace) (at : Span) (params : List Vary) (exprs : List Expr) (i : ℕ) (x : Expr) (o : Option (Bor Vary)) (n m : ℕ)
    (l : i < length exprs) (here : x ≡ get_or exprs i x) (parameter : option_copied o ≡ slice_get params i)
    (moved : m ≡ n + length (hidden_arguments (parameter_by o) (view.expression x ∷ []))) where
  exprs-drop : map view.expression (drop i exprs) ≡ view.expression x ∷ map view.expression (drop (i + 1) exprs)
  exprs-drop = ap (map view.expression) (drop_more exprs i x l) ∙ ap (λ y. view.expression y ∷ map view.expression (drop (i + 1) exprs)) (sym here)

  moved-front : m ≡ n + needed (drop i params) (view.expression x)
  moved-front = moved ∙ ap (λ vs. n + length (hidden_arguments vs (view.expression x ∷ []))) (parameter_front o params i parameter)

  -- one argument more is made
  pub values_go : (done : List TypedExpression) (v : TypedExpression) (whole : Option (List TypedExpression)) →
      named_arguments p n (parameter_by o) (view.expression x ∷ []) ≡ Some (v ∷ []) →
      made done (named_arguments p n (drop i params) (map view.expression (drop i exprs))) ≡ whole →
      made (done ++ v ∷ []) (named_arguments p m (drop (i + 1) params) (map view.expression (drop (i + 1) exprs))) ≡ whole
  values_go done v whole e w =
      let es = map view.expression (drop (i + 1) exprs) in
      let e' : named_arguments p n (front (drop i params)) (view.expression x ∷ []) ≡ Some (v ∷ []) =
      ap (λ vs. named_arguments p n vs (view.expression x ∷ [])) (sym (parameter_front o params i parameter)) ∙ e in
      ap (λ vs. made (done ++ v ∷ []) (named_arguments p m vs es)) (drop_behind params i)
      ∙ ap (λ k. made (done ++ v ∷ []) (named_arguments p k (behind (drop i params)) es)) moved-front
      ∙ sym (made_joined done (done ++ v ∷ []) (named_arguments p n (front (drop i params)) (view.expression x ∷ []))
      (named_arguments p (n + needed (drop i params) (view.expression x)) (behind (drop i params)) es) (ap (made done) e'))
      ∙ ap (made done) (sym (arguments_turn p n (drop i params) (view.expression x) es))
      ∙ ap (λ ys. made done (named_arguments p n (drop i params) ys)) (sym exprs-drop) ∙ w

  -- and put aside, where it is
  pub aside_go : (done new : List TypedStatement) (whole : Option (List TypedStatement)) →
      made done (put_aside p n at (hidden_arguments (parameter_by o) (view.expression x ∷ []))) ≡ Some new →
      made done (put_aside p n at (hidden_arguments (drop i params) (map view.expression (drop i exprs)))) ≡ whole →
      made new (put_aside p m at (hidden_arguments (drop (i + 1) params) (map view.expression (drop (i + 1) exprs)))) ≡ whole
  aside_go done new whole e w =
      let es = map view.expression (drop (i + 1) exprs) in
      let e' : made done (put_aside p n at (hidden_arguments (front (drop i params)) (view.expression x ∷ []))) ≡ Some new =
      ap (λ vs. made done (put_aside p n at (hidden_arguments vs (view.expression x ∷ [])))) (sym (parameter_front o params i parameter)) ∙ e in
      ap (λ vs. made new (put_aside p m at (hidden_arguments vs es))) (drop_behind params i)
      ∙ ap (λ k. made new (put_aside p k at (hidden_arguments (behind (drop i params)) es))) moved-front
      ∙ sym (made_joined done new (put_aside p n at (hidden_arguments (front (drop i params)) (view.expression x ∷ [])))
      (put_aside p (n + needed (drop i params) (view.expression x)) at (hidden_arguments (behind (drop i params)) es)) e')
      ∙ ap (made done) (sym (aside_turn p n at (drop i params) (view.expression x) es))
      ∙ ap (λ ys. made done (put_aside p n at (hidden_arguments (drop i params) ys))) (sym exprs-drop) ∙ w

  -- the count of hidden locals goes on
  pub count_go : (whole : ℕ) → n + length (hidden_arguments (drop i params) (map view.expression (drop i exprs))) ≡ whole →
      m + length (hidden_arguments (drop (i + 1) params) (map view.expression (drop (i + 1) exprs))) ≡ whole
  count_go whole w =
      let es = map view.expression (drop (i + 1) exprs) in
      let a = ap (λ ys. length (hidden_arguments (drop i params) ys)) exprs-drop in
      let b = count_turn (drop i params) (view.expression x) es in
      let d = ap (λ vs. length (hidden_arguments vs es)) (drop_behind params i) in
      let f = moved-front in omega arith

-- nothing is left to put aside
pub no_arguments : (vs : List Vary) → hidden_arguments vs [] ≡ []
no_arguments [] = refl
no_arguments (v ∷ vs) = refl

call_behind : (done mid : List TypedStatement) (o : Option (List TypedStatement)) (s : TypedStatement) → made done o ≡ Some mid →
    made done (from_both (λ before last. before ++ (last ∷ [])) o (Some s)) ≡ Some (mid ++ s ∷ [])
call_behind done mid None s e = absurd (false≢true (let x : false ≡ true = cc in x))
call_behind done mid (Some ss) s e =
    let n : done ++ ss ≡ mid = cc in
    ap (λ xs. Some xs) (sym (append_assoc done ss (s ∷ [])) ∙ ap (λ xs. xs ++ s ∷ []) n)

-- a call behind what it puts aside
pub call_made : (p : NamingPlace) (n : ℕ) (at : Span) (xs : List Name) (f : Name) (es : List Expression) (k : ℕ) (cs : List Column) (ts : List TypedExpression) (params : List Vary) (done mid : List TypedStatement) →
    procedure_number p f ≡ Some k → params_named p f ≡ params → targets_of p.scope xs ≡ Some cs → named_arguments p n params es ≡ Some ts →
    made done (put_aside p n at (hidden_arguments params es)) ≡ Some mid →
    made done (named_call p n at xs f es) ≡ Some (mid ++ Call at cs k ts ∷ [])
call_made p n at xs f es k cs ts params done mid ek ep ec et em =
    rw (ep, ec, ek, et) (call_behind done mid (put_aside p n at (hidden_arguments params es)) (Call at cs k ts) em)

-- the parameters of a procedure with a number
pub params_numbered : (p : NamingPlace) (f : Name) (k : ℕ) → procedure_number p f ≡ Some k → params_named p f ≡ params_if_any (slice_get p.procs k)
params_numbered p f k e = ap (λ o. params_if_any (option_and_then (slice_get p.procs) o)) e

-- the loops around make no difference to a call
module _ (p : NamingPlace) (loops : List (Option (List ℕ))) where
  aside_anywhere : (n : ℕ) (at : Span) (es : List Expression) → put_aside (record p { loops = loops }) n at es ≡ put_aside p n at es
  aside_anywhere n at [] = refl
  aside_anywhere n at (e ∷ es) = ap (λ o. from_both (λ t ts. Assign at (hidden_column p n ∷ []) (t ∷ []) ∷ ts) (named p.scope e) o) (aside_anywhere (n + 1) at es)

  arguments_anywhere : (n : ℕ) (vs : List Vary) (es : List Expression) → named_arguments (record p { loops = loops }) n vs es ≡ named_arguments p n vs es
  arguments_anywhere n vs [] = refl
  arguments_anywhere n [] (e ∷ es) = refl
  arguments_anywhere n (v ∷ vs) (e ∷ es) = by_hidden (is_hidden v.ty e) (arguments_anywhere (n + 1) vs es) (arguments_anywhere n vs es)
    where
      by_hidden : (b : Bool) → named_arguments (record p { loops = loops }) (n + 1) vs es ≡ named_arguments p (n + 1) vs es →
          named_arguments (record p { loops = loops }) n vs es ≡ named_arguments p n vs es →
          (if b then option_map (λ ts. Var (expression_span e) (hidden_column p n) ∷ ts) (named_arguments (record p { loops = loops }) (n + 1) vs es) else from_both (λ t ts. t ∷ ts) (named p.scope e) (named_arguments (record p { loops = loops }) n vs es))
          ≡ (if b then option_map (λ ts. Var (expression_span e) (hidden_column p n) ∷ ts) (named_arguments p (n + 1) vs es) else from_both (λ t ts. t ∷ ts) (named p.scope e) (named_arguments p n vs es))
      by_hidden true h k = ap (option_map (λ ts. Var (expression_span e) (hidden_column p n) ∷ ts)) h
      by_hidden false h k = ap (from_both (λ t ts. t ∷ ts) (named p.scope e)) k

  pub call_anywhere : (n : ℕ) (at : Span) (xs : List Name) (f : Name) (es : List Expression) → named_call (record p { loops = loops }) n at xs f es ≡ named_call p n at xs f es
  call_anywhere n at xs f es =
      ap (λ o. from_both (λ before last. before ++ (last ∷ [])) o (option_and_then (λ cs. from_both (Call at cs) (procedure_number p f) (named_arguments (record p { loops = loops }) n (params_named p f) es)) (targets_of p.scope xs))) (aside_anywhere n at (hidden_arguments (params_named p f) es))
      ∙ ap (λ o. from_both (λ before last. before ++ (last ∷ [])) (put_aside p n at (hidden_arguments (params_named p f) es)) (option_and_then (λ cs. from_both (Call at cs) (procedure_number p f) o) (targets_of p.scope xs))) (arguments_anywhere n (params_named p f) es)

  unknown_anywhere : (xs : List Name) (g : Name) (es : List Expression) (f : TypeFault) → IsCallUnknown p xs g es f → IsCallUnknown (record p { loops = loops }) xs g es f
  unknown_anywhere xs g es _ (callee e) = callee e
  unknown_anywhere xs g es _ (target f e) = target f e
  unknown_anywhere xs g es _ (argument f e) = argument f e

  pub call_fault_anywhere : (xs : List Name) (g : Name) (es : List Expression) (f : TypeFault) → IsCallFault p xs g es f → IsCallFault (record p { loops = loops }) xs g es f
  call_fault_anywhere xs g es f = or_memory_to f (unknown_anywhere xs g es f)
