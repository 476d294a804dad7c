-- The trial of every placement finds best rows, where they do not pass its bound, and finds nothing where no rows are feasible.
use mathlib.Core.Path.{◌≡◌, refl, sym, ap, ◌∙◌}
use mathlib.Core.Bool.{Bool, true, false, ◌||◌, cond, true≢false, and-eq-true_iff}
use Prim.Native.Nat.{ℕ, zero, suc, ◌+◌, ◌*◌, ◌-◌, ◌≤◌, ◌<◌, suc-le-suc}
use native.Mathlib.Nat.{not-suc-le-zero, le_of_suc-le-suc, zero-lt-suc, suc_inj, suc-ne-zero}
use native.Mathlib.Decide.{ℕ_discrete}
use native.Mathlib.Omega.{arith}
use mathlib.Core.List.{List, [], ◌∷◌, ◌++◌, map}
use lib.ListN.{length, take, length-append}
use lib.Seq.{take-suc, take_all, length-take-le, get_or-take}
use lib.Dec.{leb, ltb, leb-zero}
use borrow.Author.Tests.{leb-true, leb-false, le-leb, lt-leb, lt-ltb, le-ltb}
use Rattle.graph.specs.declared.Edge.{Edge}
use Rattle.graph.specs.Rows.{at, Kept, Feasible, total, Best, Within}
use Rattle.graph.specs.Search.{keeps_one, keeps, sieve, run, extend, placements, lightest, first_lightest, widest, rows_of}

-- ---- the test of one placement

or3-true : (a b c : Bool) → (a ≡ false → b ≡ false → c ≡ true) → (a || b || c) ≡ true
or3-true true b c h = refl
or3-true false true c h = refl
or3-true false false c h = h refl refl

or3-last : (a b c : Bool) → (a || b || c) ≡ true → a ≡ false → b ≡ false → c ≡ true
or3-last true b c e p q = absurd (true≢false p)
or3-last false true c e p q = absurd (true≢false q)
or3-last false false c e p q = e

keeps_one-take : (ys : List ℕ) (a : Edge) (k : ℕ) → k ≤ length ys → Kept (at ys) a → keeps_one (take k ys) a ≡ true
unfolding keeps_one
keeps_one-take ys a k l h =
    or3-true (leb (length t) a.from) (leb (length t) a.to) (leb (at t a.from + a.gap) (at t a.to)) (λ p q.
    le-leb (at t a.from + a.gap) (at t a.to)
    (kept (leb-false (length t) a.from p) (leb-false (length t) a.to q)))
  where
    t : List ℕ
    t = take k ys

    kept : a.from < length t → a.to < length t → Kept (at t) a
    kept p q =
        let e = length-take-le k ys l in
        omega (arith, get_or-take k ys a.from 0 (omega arith), get_or-take k ys a.to 0 (omega arith))

keeps-take : (edges : List Edge) (ys : List ℕ) (k : ℕ) → k ≤ length ys → Feasible edges (at ys) → keeps edges (take k ys) ≡ true
unfolding keeps
keeps-take [] ys k l h = refl
keeps-take (a ∷ edges) ys k l h =
    rw (keeps_one-take ys a k l (h zero (zero-lt-suc (length edges))))
    (keeps-take edges ys k l (λ i b. h (suc i) (suc-le-suc b)))

keeps-nil : (edges : List Edge) → keeps edges [] ≡ true
unfolding keeps keeps_one
keeps-nil [] = refl
keeps-nil (a ∷ edges) = rw (leb-zero a.from) (keeps-nil edges)

pub keeps-feasible : (edges : List Edge) (ys : List ℕ) → Within (length ys) edges → keeps edges ys ≡ true → Feasible edges (at ys)
unfolding keeps keeps_one
keeps-feasible [] ys w e i b = absurd (not-suc-le-zero b)
keeps-feasible (a ∷ edges) ys w e zero b =
    leb-true (at ys a.from + a.gap) (at ys a.to)
    (or3-last (leb (length ys) a.from) (leb (length ys) a.to) (leb (at ys a.from + a.gap) (at ys a.to))
    ((and-eq-true_iff (keeps_one ys a) (keeps edges ys)).0 e).0
    (lt-leb (length ys) a.from (w zero b).0)
    (lt-leb (length ys) a.to (w zero b).1))
keeps-feasible (a ∷ edges) ys w e (suc i) b =
    keeps-feasible edges ys (λ j c. w (suc j) (suc-le-suc c)) ((and-eq-true_iff (keeps_one ys a) (keeps edges ys)).0 e).1 i (le_of_suc-le-suc b)

-- ---- one list of rows lies nowhere above another

abbrev pub Under : List ℕ → List ℕ → Type 0
Under [] c = Unit {0}
Under (a ∷ y) [] = ⊥
Under (a ∷ y) (b ∷ c) = (a ≤ b) × Under y c

pub under_at : (y c : List ℕ) → length y ≡ length c → ((i : ℕ) → i < length y → at y i ≤ at c i) → Under y c
under_at [] c e h = tt
under_at (a ∷ y) [] e h = suc-ne-zero (length y) e
under_at (a ∷ y) (b ∷ c) e h = (h zero (zero-lt-suc (length y)), under_at y c (suc_inj e) (λ i l. h (suc i) (suc-le-suc l)))

under-snoc : (y c : List ℕ) (v x : ℕ) → length y ≡ length c → Under (y ++ v ∷ []) (c ++ x ∷ []) → Under y c × (v ≤ x)
under-snoc [] [] v x e u = (tt, u.0)
under-snoc [] (b ∷ c) v x e u = absurd (suc-ne-zero (length c) (sym e))
under-snoc (a ∷ y) [] v x e u = absurd (suc-ne-zero (length y) e)
under-snoc (a ∷ y) (b ∷ c) v x e u =
    let r = under-snoc y c v x (suc_inj e) u.1 in
    ((u.0, r.0), r.1)

-- ---- all of some lists

pub data All (P : List ℕ → Type 0) : List (List ℕ) → Type 0 where
  none : All P []
  one : {c : List ℕ} {cs : List (List ℕ)} → P c → All P cs → All P (c ∷ cs)

pub all_map : {P Q : List ℕ → Type 0} {cs : List (List ℕ)} → ((c : List ℕ) → P c → Q c) → All P cs → All Q cs
all_map f none = none
all_map f (one {c = c} p h) = one (f c p) (all_map f h)

all_append : {P : List ℕ → Type 0} {cs ds : List (List ℕ)} → All P cs → All P ds → All P (cs ++ ds)
all_append none k = k
all_append (one p h) k = one p (all_append h k)

all-sieve : {P : List ℕ → Type 0} {cs : List (List ℕ)} (edges : List Edge) → All P cs → All (λ c. P c × (keeps edges c ≡ true)) (sieve edges cs)
unfolding sieve
all-sieve edges none = none
all-sieve {P} edges (one {c = c} {cs = cs} p h) = go (keeps edges c) refl (all-sieve edges h)
  where
    go : (b : Bool) → keeps edges c ≡ b → All (λ d. P d × (keeps edges d ≡ true)) (sieve edges cs)
        → All (λ d. P d × (keeps edges d ≡ true)) (cond b (c ∷ sieve edges cs) (sieve edges cs))
    go true e r = one (p, e) r
    go false e r = r

all-run : (P : List ℕ → Type 0) (c : List ℕ) → ((x : ℕ) → P (c ++ x ∷ [])) → (a k : ℕ) → All P (map (λ x. c ++ x ∷ []) (run a k))
unfolding run
all-run P c f a zero = none
all-run P c f a (suc k) = one (f a) (all-run P c f (suc a) k)

-- ---- y is met among the lists: every list before it lies somewhere below y

pub data Met (y : List ℕ) : List (List ℕ) → Type 0 where
  here : {c : List ℕ} {cs : List (List ℕ)} → y ≡ c → Met y (c ∷ cs)
  there : {c : List ℕ} {cs : List (List ℕ)} → ¬ Under y c → Met y cs → Met y (c ∷ cs)

met-left : {y : List ℕ} {cs : List (List ℕ)} (ds : List (List ℕ)) → Met y cs → Met y (cs ++ ds)
met-left ds (here e) = here e
met-left ds (there n l) = there n (met-left ds l)

met-right : {y : List ℕ} {cs ds : List (List ℕ)} → All (λ c. ¬ Under y c) cs → Met y ds → Met y (cs ++ ds)
met-right none l = l
met-right (one p h) l = there p (met-right h l)

met-sieve : {y : List ℕ} {cs : List (List ℕ)} (edges : List Edge) → keeps edges y ≡ true → Met y cs → Met y (sieve edges cs)
unfolding sieve
met-sieve edges k (here {c = c} {cs = cs} e) = rw (rw e at k) (here e)
met-sieve {y} edges k (there {c = c} {cs = cs} n l) = go (keeps edges c) (met-sieve edges k l)
  where
    go : (b : Bool) → Met y (sieve edges cs) → Met y (cond b (c ∷ sieve edges cs) (sieve edges cs))
    go true r = there n r
    go false r = r

met-run : (c : List ℕ) (v a k : ℕ) → a ≤ v → v < a + k → Met (c ++ v ∷ []) (map (λ x. c ++ x ∷ []) (run a k))
unfolding run
met-run c v a zero h l = absurd (omega arith)
met-run c v a (suc k) h l = go (ℕ_discrete v a) (λ p. met-run c v (suc a) k p (omega arith))
  where
    go : Dec (v ≡ a) → (suc a ≤ v → Met (c ++ v ∷ []) (map (λ x. c ++ x ∷ []) (run (suc a) k)))
        → Met (c ++ v ∷ []) ((c ++ a ∷ []) ∷ map (λ x. c ++ x ∷ []) (run (suc a) k))
    go (yes e) r = here (ap (λ (x : ℕ). c ++ x ∷ []) e)
    go (no n) r = there (λ (u : Under (c ++ v ∷ []) (c ++ a ∷ [])). n (omega (arith, (under-snoc c c v a refl u).1))) (r (omega arith))

met-extend : {y : List ℕ} {cs : List (List ℕ)} (edges : List Edge) (b v : ℕ) → v ≤ b → keeps edges (y ++ v ∷ []) ≡ true
    → All (λ c. length y ≡ length c) cs → Met y cs → Met (y ++ v ∷ []) (extend edges b cs)
unfolding extend
met-extend edges b v h k al (here {c = c} {cs = cs} e) =
    met-left (extend edges b cs) (met-sieve {cs = map (λ x. c ++ x ∷ []) (run 0 (suc b))} edges k (rw e (met-run c v 0 (suc b) (omega arith) (omega arith))))
met-extend {y} edges b v h k (one q al) (there {c = c} {cs = cs} n l) =
    met-right (all_map (λ d p. p.0) (all-sieve edges (all-run (λ d. ¬ Under (y ++ v ∷ []) d) c (λ x u. n (under-snoc y c v x q u).0) 0 (suc b))))
    (met-extend edges b v h k al l)

-- ---- the placements: each has its length and keeps the edges, and the rows ys lead them

all-extend : (edges : List Edge) (b k : ℕ) {cs : List (List ℕ)} → All (λ c. length c ≡ k) cs
    → All (λ c. (length c ≡ suc k) × (keeps edges c ≡ true)) (extend edges b cs)
unfolding extend
all-extend edges b k none = none
all-extend edges b k (one {c = c} e h) =
    all_append (all-sieve edges (all-run (λ d. length d ≡ suc k) c (λ x. simp length-append (omega arith)) 0 (suc b))) (all-extend edges b k h)

all-placements : (edges : List Edge) (b k : ℕ) → All (λ c. length c ≡ k) (placements edges b k)
unfolding placements
all-placements edges b zero = one refl none
all-placements edges b (suc k) = all_map (λ c p. p.0) (all-extend edges b k (all-placements edges b k))

pub all_keep : (edges : List Edge) (b k : ℕ) → All (λ c. (length c ≡ k) × (keeps edges c ≡ true)) (placements edges b k)
unfolding placements
all_keep edges b zero = one (refl, keeps-nil edges) none
all_keep edges b (suc k) = all-extend edges b k (all-placements edges b k)

module _ (edges : List Edge) (ys : List ℕ) (fea : Feasible edges (at ys)) (b : ℕ) (small : (i : ℕ) → i < length ys → at ys i ≤ b) where
  pub met-placements : (k : ℕ) → k ≤ length ys → Met (take k ys) (placements edges b k)
  unfolding placements
  met-placements zero h = here refl
  met-placements (suc k) h =
      rw (take-suc ys k 0 h)
      (met-extend edges b (at ys k) (small k h) (rw (take-suc ys k 0 h) at (keeps-take edges ys (suc k) h fea))
      (all_map (λ c e. length-take-le k ys (omega arith) ∙ sym e) (all-placements edges b k))
      (met-placements k (omega arith)))

-- ---- the first of the lightest, by what each weighs

module _ (weigh : List ℕ → ℕ) (y : List ℕ) where
  stays : {cs : List (List ℕ)} → All (λ c. weigh y ≤ weigh c) cs → lightest weigh y cs ≡ y
  unfolding lightest
  stays none = refl
  stays (one {c = c} p h) = rw (le-ltb (weigh c) (weigh y) p) (stays h)

  -- y is no heavier than c, and nowhere above it if c is as light
  abbrev pub Beats : List ℕ → Type 0
  Beats c = (weigh y ≤ weigh c) × (weigh c ≡ weigh y → Under y c)

  comes : {cs : List (List ℕ)} (x : List ℕ) → weigh y < weigh x → Met y cs → All Beats cs → lightest weigh x cs ≡ y
  unfolding lightest
  comes x l (here {c = c} e) (one p h) =
      rw (lt-ltb (weigh c) (weigh x) (rw e at l)) (rw (← e) (stays (all_map (λ d q. q.0) h)))
  comes x l (there {c = c} n r) (one p h) = comes (cond t c x) (go t) r h
    where
      t : Bool
      t = ltb (weigh c) (weigh x)

      go : (b : Bool) → weigh y < weigh (cond b c x)
      go true = elim (ℕ_discrete (weigh c) (weigh y)) [ yes e ↦ absurd (n (p.1 e)) | no d ↦ omega arith ]
      go false = l

  -- A list that is met before any that lies nowhere below it, and that beats all, is the first of the lightest.
  pub first-lightest : {cs : List (List ℕ)} → Met y cs → All Beats cs → first_lightest weigh cs ≡ y
  unfolding first_lightest
  first-lightest (here {c = c} e) (one p h) = rw (← e) (stays (all_map (λ d q. q.0) h))
  first-lightest (there {c = c} n r) (one p h) =
      comes c (elim (ℕ_discrete (weigh c) (weigh y)) [ yes e ↦ absurd (n (p.1 e)) | no d ↦ omega arith ]) r h

-- Best rows that do not pass the bound are what the trial finds. They are among the placements tried, since they keep the edges and
-- the bound. A placement before them is smaller somewhere, so it is heavier; one after them is no lighter. So they are the first of the
-- lightest.
pub bounded-is-rows_of : (n : ℕ) (edges : List Edge) (ys : List ℕ) → Within n edges
    → ((i : ℕ) → i < n → at ys i ≤ (n - 1) * widest edges) → Best n edges ys → rows_of n edges ≡ ys
unfolding rows_of
bounded-is-rows_of n edges ys w small best =
    let e = best.one_a_node in
    first-lightest (λ ys. total edges (at ys)) ys
    (rw (take_all n ys (omega arith)) at (met-placements edges ys best.feasible b (λ i h. small i (omega arith)) n (omega arith)))
    (all_map beats (all_keep edges b n))
  where
    b : ℕ
    b = (n - 1) * widest edges

    beats : (c : List ℕ) → (length c ≡ n) × (keeps edges c ≡ true) → Beats (λ ys. total edges (at ys)) ys c
    beats c p =
        let f : Feasible edges (at c) = keeps-feasible edges c (rw p.0 w) p.1 in
        (best.least c p.0 f, λ q. under_at ys c (best.one_a_node ∙ sym p.0) (λ i h. best.lowest c p.0 f q i (omega (arith, best.one_a_node))))

-- where no placement is feasible, `rows_of` is empty
none_left : {cs : List (List ℕ)} (weigh : List ℕ → ℕ) → All (λ c. ⊥) cs → first_lightest weigh cs ≡ []
unfolding first_lightest
none_left weigh none = refl
none_left weigh (one p h) = absurd p

pub none-is-rows_of : (n : ℕ) (edges : List Edge) → Within n edges → ((z : ℕ → ℕ) → Feasible edges z → ⊥) → rows_of n edges ≡ []
unfolding rows_of
none-is-rows_of n edges w no_one =
    none_left (λ ys. total edges (at ys)) (all_map (λ c p. no_one (at c) (keeps-feasible edges c (rw p.0 w) p.1)) (all_keep edges ((n - 1) * widest edges) n))
