-- Balance at a node, from balance by test functions.
use mathlib.Core.Path.{◌≡◌, refl}
use mathlib.Core.Bool.{Bool, true, false, cond}
use mathlib.Core.List.{List, [], ◌∷◌, tail}
use Prim.Native.Nat.{ℕ, ◌*◌}
use native.Mathlib.Omega.{arith}
use lib.Dec.{eqb}
use Rattle.graph.specs.Rows.{at}
use Rattle.relaxation.specs.Certificate.{flux, Balance, flow_at, NodeBalance}

-- 1 at node v and 0 elsewhere
indicator : ℕ → ℕ → ℕ
indicator v u = cond (eqb u v) 1 0

times-cond : (b : Bool) (x : ℕ) → x * cond b 1 0 ≡ cond b x 0
times-cond true x = omega arith
times-cond false x = omega arith

flux-at : (f ends : List ℕ) (v : ℕ) → flux f ends (indicator v) ≡ flow_at f ends v
unfolding flux flow_at indicator
flux-at [] ends v = refl
flux-at (x ∷ f) ends v = omega (arith, times-cond (eqb (at ends 0) v) x, flux-at f (tail ends) v)

-- Test the balance with the function that is 1 at v and 0 elsewhere.
pub node-balance : (from to f g : List ℕ) → Balance from to f g → (v : ℕ) → NodeBalance from to f g v
node-balance from to f g b v = omega (arith, b.test (indicator v), flux-at f to v, flux-at f from v, flux-at g to v, flux-at g from v)
