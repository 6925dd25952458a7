-- The loops of a search over the product.
use Rattle.std.proofs.Common.{◌≡◌, ◌∙◌, ◌⊎◌, ◌<◌, ◌+◌, ℕ, List, length, take, get_or, Option, None, Some, sym, subst, inl, inr, arith}
use Rattle.nwa_base.specs.declared.letters.Kind.TheVariants as kinds
use Rattle.nwa_base.specs.declared.letters.Letter.{Letter}
use Rattle.nwa_base.specs.Members.{Member}
use Rattle.nwa_base.specs.Automata.{IsEdge, IsBackEdge}
use Rattle.nwa_base.specs.Edges.{leaving, entering, backs_between}
use Rattle.nwa_difference.specs.Ties.Making.{NoReturns}
use Rattle.nwa_difference.specs.Ties.Stages.{Found, Stage, IsStage, Goes, InsidesFollowed, CallsFollowed, BacksFollowed, ExitsFollowed, CallersFollowed, CallDone, CallsDone, ReturnsDone, ExitDone, WasBefore, Expanded}
use Rattle.nwa_difference.proofs.MakingLemmas.{all_member}
use Rattle.nwa_difference.proofs.FollowLemmas.{Each, Followed, followed_none, followed_more, each_leaving, each_entering, each_between}
use Rattle.nwa_difference.proofs.StageLemmas.{goes_none, goes_on, pair_stays, insides_followed_stay, calls_followed_stay, backs_followed_stay}

-- a loop over the stage, whose facts stay
pub walk_none : {X : Type 0} (P : Stage → X → Type 0) (s : Stage) (xs : List X) → IsStage s → Followed Goes P s s (take 0 xs)
walk_none P s xs v = followed_none Goes P s xs (goes_none s v)

pub walk_more : {X : Type 0} (P : Stage → X → Type 0) (a b c : Stage) (xs : List X) (i : ℕ) (d : X) →
    ((s t : Stage) (x : X) → Goes s t → P s x → P t x) → i < length xs → Followed Goes P a b (take i xs) → Goes b c → P c (get_or xs i d) →
    Followed Goes P a c (take (i + 1) xs)
walk_more P a b c xs i d stays l f g h = followed_more Goes P a b c xs i d goes_on (λ s t x r k p. stays s t x k p) l f g h

-- the ends of edges are states
pub call_ends_within : (s : Stage) (x y : ℕ) (l : Letter) → IsStage s → Member s.product.product.calls (x, l, y) → y < length s.product.states
call_ends_within s x y l v m =
    let e = all_member (IsEdge s.product.product.states kinds.Call) s.product.product.calls (x, l, y) v.made.automaton.calls m in
    let i = e.to in
    let c = v.made.count in
    omega arith

pub inside_ends_within : (s : Stage) (x y : ℕ) (l : Letter) → IsStage s → Member s.product.product.insides (x, l, y) → y < length s.product.states
inside_ends_within s x y l v m =
    let e = all_member (IsEdge s.product.product.states kinds.Inside) s.product.product.insides (x, l, y) v.made.automaton.insides m in
    let i = e.to in
    let c = v.made.count in
    omega arith

pub back_ends_within : (s : Stage) (x p y : ℕ) (l : Letter) → IsStage s → Member s.product.product.backs (x, p, l, y) → y < length s.product.states
back_ends_within s x p y l v m =
    let e = all_member (IsBackEdge s.product.product.states) s.product.product.backs (x, p, l, y) v.made.automaton.backs m in
    let i = e.to in
    let c = v.made.count in
    omega arith

-- the inside letters from a pair
pub insides_done : (s : Stage) (f : Found) (k : Option ℕ) (x : ℕ) (items edges : List (ℕ × Letter × ℕ)) → Member s.found.opened x →
    Goes s (record s { found = f }) → items ≡ leaving x edges → edges ≡ s.product.product.insides → Each items (λ e. Member f.pairs (k, e.2)) →
    InsidesFollowed (record s { found = f }) k x
insides_done s f k x items edges o g e h m =
    (g.opened x o, λ l y n. each_leaving items edges s.product.product.insides x (λ z. Member f.pairs (k, z.2)) e h m l y n)

-- the returns to a pair
pub backs_done : (s : Stage) (f : Found) (k : Option ℕ) (p x : ℕ) (items edges : List (ℕ × ℕ × Letter × ℕ)) → Member s.found.joined (x, p) →
    Goes s (record s { found = f }) → items ≡ backs_between x p edges → edges ≡ s.product.product.backs → Each items (λ e. Member f.pairs (k, e.3)) →
    BacksFollowed (record s { found = f }) k p x
backs_done s f k p x items edges o g e h m =
    (inl (g.joined (x, p) o), λ l y n. each_between items edges s.product.product.backs x p (λ z. Member f.pairs (k, z.3)) e h m l y n)

-- the exits of an entry
pub exits_done : (a b : Stage) (k : Option ℕ) (p n : ℕ) (items : List ℕ) → items ≡ a.found.exits n → Each items (λ q. BacksFollowed b k p q) → ExitsFollowed a b k p n
exits_done a b k p n items e h q m = h q (subst (λ (l : List ℕ). Member l q) (sym e) m)

-- the callers of a state
pub callers_done : (a b : Stage) (p x : ℕ) (items : List (Option ℕ)) → items ≡ a.found.callers p → Each items (λ j. BacksFollowed b j p x) → CallersFollowed a b p x
callers_done a b p x items e h j m = h j (subst (λ (l : List (Option ℕ)). Member l j) (sym e) m)

pub exits_later : (a b c : Stage) (k : Option ℕ) (p n : ℕ) → Goes b c → ExitsFollowed a b k p n → ExitsFollowed a c k p n
exits_later a b c k p n g h q m = backs_followed_stay b c k p q g (h q m)

pub exits_earlier : (a b c : Stage) (k : Option ℕ) (p n : ℕ) → Goes a b → ExitsFollowed b c k p n → ExitsFollowed a c k p n
exits_earlier a b c k p n g h q m = h q (g.exits n q m)

pub callers_later : (a b c : Stage) (p x : ℕ) → Goes b c → CallersFollowed a b p x → CallersFollowed a c p x
callers_later a b c p x g h j m = backs_followed_stay b c j p x g (h j m)

pub callers_earlier : (a b c : Stage) (p x : ℕ) → Goes a b → CallersFollowed b c p x → CallersFollowed a c p x
callers_earlier a b c p x g h j m = h j (g.callers p j m)

-- one call is done
pub call_done : (a b c : Stage) (k : Option ℕ) (x n : ℕ) → Goes a b → Member b.found.pairs (Some n, n) → Goes b c → ExitsFollowed b c k x n → CallDone a c k x n
call_done a b c k x n g m h e = record { goes = goes_on a b c g h; there = pair_stays b c (Some n, n) h m; exits = exits_earlier a b c k x n g e }

-- what a loop over calls makes of each
abbrev pub CallFollowed : Stage → Option ℕ → ℕ → Stage → ℕ × Letter × ℕ → Type 0
CallFollowed a k x s e = Member s.found.pairs (Some e.2, e.2) × ExitsFollowed a s k x e.2

pub call_followed_stays : (a : Stage) (k : Option ℕ) (x : ℕ) (s t : Stage) (e : ℕ × Letter × ℕ) → Goes s t → CallFollowed a k x s e → CallFollowed a k x t e
call_followed_stays a k x s t e g h = (pair_stays s t (Some e.2, e.2) g h.0, exits_later a s t k x e.2 g h.1)

-- all calls of a state that has them are done
pub calls_done : (a b : Stage) (k : Option ℕ) (x : ℕ) (items copy edges : List (ℕ × Letter × ℕ)) → Member a.found.opened x → Goes a b → items ≡ copy →
    copy ≡ leaving x edges → edges ≡ a.product.product.calls → Each items (CallFollowed a k x b) → CallsDone a b k x
calls_done a b k x items copy edges o g f e h m =
    let old : (l : Letter) (y : ℕ) → Member b.product.product.calls (x, l, y) → Member a.product.product.calls (x, l, y) =
    λ l y n. elim (g.product.new_calls (x, l, y) n) [ inl i ↦ i | inr r ↦ absurd (r o) ] in
    let each : (l : Letter) (y : ℕ) → Member b.product.product.calls (x, l, y) → CallFollowed a k x b (x, l, y) =
    λ l y n. each_leaving items edges a.product.product.calls x (CallFollowed a k x b) (f ∙ e) h m l y (old l y n) in
    record {
      goes = g;
      calls = (g.opened x o, λ l y n. (each l y n).0);
      exits = λ l n r. (each l n r).1;
    }

-- what a loop over callers makes of each
abbrev pub CallerFollowed : Stage → ℕ → Stage → ℕ × Letter × ℕ → Type 0
CallerFollowed a x s e = CallersFollowed a s e.0 x

pub caller_followed_stays : (a : Stage) (x : ℕ) (s t : Stage) (e : ℕ × Letter × ℕ) → Goes s t → CallerFollowed a x s e → CallerFollowed a x t e
caller_followed_stays a x s t e g h = callers_later a s t e.0 x g h

pub returns_done : (a b : Stage) (n x : ℕ) (items copy edges : List (ℕ × Letter × ℕ)) → Goes a b → items ≡ copy → copy ≡ entering n edges →
    edges ≡ a.product.product.calls → Each items (CallerFollowed a x b) → ReturnsDone a b n x
returns_done a b n x items copy edges g f e h m =
    record { goes = g; callers = λ p l r. each_entering items edges a.product.product.calls n (CallerFollowed a x b) (f ∙ e) h m p l r }

-- an exit is noted, and its returns are done
pub exit_done : (a b c : Stage) (n x : ℕ) → Goes a b → Member (b.found.exits n) x → ReturnsDone b c n x → ExitDone a c n x
exit_done a b c n x g m h = record {
  goes = goes_on a b c g h.goes;
  exit = inr (h.goes.exits n x m);
  callers = λ p l r j i. h.callers p l (g.product.calls (p, l, n) r) j (g.callers p j i);
}

-- a pair whose inside letters and calls are done
pub record Forward (old new : Stage) (k : Option ℕ) (x : ℕ) : Type 0 where
  pub goes : Goes old new
  pub insides : InsidesFollowed new k x
  pub calls : CallsFollowed new x
  pub caller : Member (new.found.callers x) k
  pub exits : (l : Letter) (n : ℕ) → Member new.product.product.calls (x, l, n) → ExitsFollowed old new k x n

-- the state is opened, the pair is noted, and its inside letters and its calls are followed
pub forward : (a b c d e : Stage) (k : Option ℕ) (x : ℕ) → Goes a b → Goes b c → Member (c.found.callers x) k → Goes c d → InsidesFollowed d k x →
    CallsDone d e k x → Forward a e k x
forward a b c d e k x g h m i n r =
    let t = goes_on a b c g h in
    let u = goes_on a c d t i in
    record {
      goes = goes_on a d e u r.goes;
      insides = insides_followed_stay d e k x r.goes n;
      calls = r.calls;
      caller = r.goes.callers x k (i.callers x k m);
      exits = λ l y q. exits_earlier a d e k x y u (r.exits l y q);
    }

pub expanded_none : (a b : Stage) (k : Option ℕ) (x : ℕ) → k ≡ None → Forward a b k x → Expanded a b k x
expanded_none a b k x e f = record {
  goes = f.goes;
  insides = f.insides;
  calls = f.calls;
  caller = f.caller;
  exit = λ n h. absurd (let i : None ≡ Some n = sym e ∙ h in cc);
  exits = f.exits;
  callers = λ n p l j h m w. absurd (let i : None ≡ Some n = sym e ∙ h in cc);
}

some_same : (x y : ℕ) → Some x ≡ Some y → x ≡ y
some_same x y e = cc

-- the call was made before the exit was gone through
before_exit : (a b : Stage) (k j : Option ℕ) (x p : ℕ) → Forward a b k x → WasBefore a k x j p → Member (b.found.callers p) j × Member b.found.opened p
before_exit a b k j x p f (inl h) = (f.goes.callers p j h.0, f.goes.opened p h.1)
before_exit a b k j x p f (inr h) = (
  subst (λ (z : ℕ). Member (b.found.callers z) j) h.1 (subst (Member (b.found.callers x)) h.0 f.caller),
  subst (Member b.found.opened) h.1 f.insides.0,
)

pub expanded_some : (a b c : Stage) (k : Option ℕ) (x n : ℕ) → k ≡ Some n → Forward a b k x → ExitDone b c n x → Expanded a c k x
expanded_some a b c k x n e f r = record {
  goes = goes_on a b c f.goes r.goes;
  insides = insides_followed_stay b c k x r.goes f.insides;
  calls = calls_followed_stay b c x r.goes f.calls;
  caller = r.goes.callers x k f.caller;
  exit = λ m h. subst (λ (z : ℕ). NoReturns c.product x ⊎ Member (c.found.exits z) x) (some_same n m (sym e ∙ h)) r.exit;
  exits = λ l m h.
      exits_later a b c k x m r.goes
      (f.exits l m (elim (r.goes.product.new_calls (x, l, m) h) [ inl o ↦ o | inr u ↦ absurd (u f.insides.0) ]));
  callers = λ m p l j h q w.
      let s = before_exit a b k j x p f w in
      let o : Member b.product.product.calls (p, l, m) = elim (r.goes.product.new_calls (p, l, m) q) [ inl i ↦ i | inr u ↦ absurd (u s.1) ] in
      r.callers p l (subst (λ (z : ℕ). Member b.product.product.calls (p, l, z)) (sym (some_same n m (sym e ∙ h))) o) j s.0;
}
