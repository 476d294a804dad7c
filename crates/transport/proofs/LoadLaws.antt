-- The loop over the edges that takes them in.
use mathlib.Core.Path.{◌≡◌, ap, ◌∙◌, subst}
use mathlib.Core.List.{List}
use Prim.Native.Nat.{ℕ, suc, ◌+◌, ◌≤◌, ◌<◌}
use native.Mathlib.Numerals.{add-one}
use native.Mathlib.Omega.{arith}
use lib.ListN.{length, set, take, replicate, length-set, length-replicate}
use lib.Seq.{get_or-set_other, take_all}
use Rattle.graph.specs.Rows.{at}
use Rattle.relaxation.specs.Certificate.{flux, Held}
use Rattle.buffers.specs.Written.{word_limit}
use Rattle.relaxation.specs.Limits.{weight_limit}
use Rattle.buffers.specs.Lists.{sum}
use Rattle.relaxation.specs.Network.{Shaped}
use Rattle.buffers.proofs.ListLaws.{set_cases, zero-at}
use Rattle.transport.specs.Flow.{Flows}
use Rattle.transport.specs.Load.{Loads}
use Rattle.transport.proofs.SumLaws.{sum-add, sum-ge, sum-take, sum-take-le, sum-zero, flux-add, flux-take, flux-zero, spread-add}
use Rattle.transport.proofs.FlowLaws.{owed-equal}

-- The first e edges are taken in: the flow is balanced, but for supply and demand, with the first e weights.
pub record Loading (from to gap weight : List ℕ) (n : ℕ) (y flow supply demand : List ℕ) (e : ℕ) : Type 0 where
  pub flows : Flows from to gap (take e weight) n y flow supply demand
  pub bound : (i : ℕ) → at flow i + sum supply ≤ sum (take e weight)
  pub fresh : (i : ℕ) → e ≤ i → at flow i ≡ 0
  pub upto : e ≤ length from

module _ (from to gap weight : List ℕ) (n : ℕ) (y : List ℕ) (shape : Shaped from to gap n) (wl : length weight ≡ length from)
    (small : sum weight < weight_limit) where
  pub loading-start : (flow supply demand : List ℕ) → flow ≡ replicate (length from) 0 → supply ≡ replicate n 0 → demand ≡ replicate n 0
      → Held from to gap flow (at y) → Loading from to gap weight n y flow supply demand 0
  unfolding flux sum
  loading-start flow supply demand ef es ed held =
      rw (es, ed) (record {
        flows = record {
          flow_long = ap length ef ∙ length-replicate {A = ℕ} (length from) 0;
          supply_long = length-replicate {A = ℕ} n 0;
          demand_long = length-replicate {A = ℕ} n 0;
          held = held;
          owed = record {
            test = λ z. omega (
              arith,
              ap (λ (l : List ℕ). flux l to z) ef,
              ap (λ (l : List ℕ). flux l from z) ef,
              flux-zero
                  (length from) to z,
              flux-zero (length from) from z,
            );
          };
          small = λ i. omega (arith, ap (λ (l : List ℕ). at l i) ef, zero-at (length from) i, sum-zero n);
          few = omega (arith, sum-zero n);
        };
        bound = λ i. omega (arith, ap (λ (l : List ℕ). at l i) ef, zero-at (length from) i, sum-zero n);
        fresh = λ i h. ap (λ (l : List ℕ). at l i) ef ∙ zero-at (length from) i;
        upto = omega arith;
      })

  module _ (flow supply demand : List ℕ) (e : ℕ) (l : Loading from to gap weight n y flow supply demand e) where
    pub load_fits : (v : ℕ) → (e < length from) → (at supply v + at weight e < word_limit) × (at demand v + at weight e < word_limit)
    load_fits v h =
        omega (
          arith,
          sum-ge supply v,
          sum-ge demand v,
          l.flows.few,
          owed-equal from to flow (take e weight) supply demand l.flows.owed,
          sum-take weight e (omega arith),
          sum-take-le weight (suc e),
        )

    -- A tight edge carries its weight, so both sides of the balance gain it alike; any other gives it to its ends to send and to get.
    pub loading-turn : e < length from → (flow' supply' demand' : List ℕ)
        → Loads from to gap weight y flow supply demand e flow' supply' demand'
        → Loading from to gap weight n y flow' supply' demand' (e + 1)
    loading-turn h flow' supply' demand' (Loads.tight t ef es ed) =
        let in-flow : e < length flow = omega (arith, l.flows.flow_long) in
        let w = at weight e in
        let now-sum : sum (take (suc e) weight) ≡ sum (take e weight) + w = sum-take weight e (omega arith) in
        let grown : (i : ℕ) → at (set flow e w) i + sum supply ≤ sum (take (suc e) weight) =
        λ i. set_cases (λ (x : ℕ). x + sum supply ≤ sum (take (suc e) weight)) flow e w i in-flow
        (λ q. omega (arith, l.flows.few)) (λ ne. omega (arith, l.bound i)) in
        let same : set flow e w ≡ set flow e (at flow e + w) = ap (set flow e) (omega (arith, l.fresh e (omega arith))) in
        rw (ef, es, ed, add-one e) (record {
          flows = record {
            flow_long = length-set flow e w ∙ l.flows.flow_long;
            supply_long = l.flows.supply_long;
            demand_long = l.flows.demand_long;
            held = record {
              kept = l.flows.held.kept;
              tight = λ a b. set_cases (λ (x : ℕ). 0 < x → at y (at to a) ≤ at y (at from a) + at gap a) flow e w a in-flow
                  (λ q u. subst (λ (j : ℕ). at y (at to j) ≤ at y (at from j) + at gap j) q (omega arith)) (λ ne. l.flows.held.tight a b);
            };
            owed = record {
              test = λ z. omega (
                arith,
                l.flows.owed.test z,
                ap (λ (k : List ℕ). flux k to z) same,
                ap (λ
                    (k : List ℕ). flux k from z) same,
                flux-add flow to z e w in-flow,
                flux-add flow from z e w in-flow,
                flux-take weight to z e
                    (omega arith),
                flux-take weight from z e (omega arith),
              );
            };
            small = λ i. omega (arith, grown i, sum-take-le weight (suc e));
            few = omega (arith, l.flows.few, sum-take weight e (omega arith));
          };
          bound = grown;
          fresh = λ i b. get_or-set_other flow e i w 0 (λ q. omega arith) ∙ l.fresh i (omega arith);
          upto = h;
        })
    loading-turn h flow' supply' demand' (Loads.loose ef es ed) =
        let f = at from e in
        let t = at to e in
        let w = at weight e in
        let in-supply : f < length supply = omega (arith, l.flows.supply_long, shape.from_in e h) in
        let in-demand : t < length demand = omega (arith, l.flows.demand_long, shape.to_in e h) in
        rw (ef, es, ed, add-one e) (record {
          flows = record {
            flow_long = l.flows.flow_long;
            supply_long = length-set supply f _ ∙ l.flows.supply_long;
            demand_long = length-set demand t _ ∙ l.flows.demand_long;
            held = l.flows.held;
            owed = record {
              test = λ z. omega (
                arith,
                l.flows.owed.test z,
                spread-add supply z f w in-supply,
                spread-add demand z t w in-demand,
                flux-take weight to z e (omega arith),
                flux-take weight from z e (omega arith),
              );
            };
            small = λ i. omega (arith, l.bound i, sum-add supply f w in-supply, sum-take weight e (omega arith), sum-take-le weight (suc e));
            few = omega (arith, l.flows.few, sum-add supply f w in-supply, sum-take weight e (omega arith));
          };
          bound = λ i. omega (arith, l.bound i, sum-add supply f w in-supply, sum-take weight e (omega arith));
          fresh = λ i b. l.fresh i (omega arith);
          upto = h;
        })

    pub loading-ends : length from ≤ e → Flows from to gap weight n y flow supply demand
    loading-ends le = subst (λ (g : List ℕ). Flows from to gap g n y flow supply demand) (take_all e weight (omega arith)) l.flows
