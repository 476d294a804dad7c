-- Moving supply or demand over one edge, and what a node has of both taken off each: the state of the solver stays.
use mathlib.Core.Path.{◌≡◌, sym, ◌∙◌, subst}
use mathlib.Core.List.{List}
use Prim.Native.Nat.{ℕ, ◌+◌, ◌-◌, ◌*◌, ◌≤◌, ◌<◌}
use native.Mathlib.Omega.{arith}
use lib.ListN.{length, set, length-set}
use Rattle.graph.specs.Rows.{at}
use Rattle.relaxation.specs.Certificate.{Held}
use Rattle.transport.specs.Flow.{Flows, spread}
use Rattle.buffers.specs.Written.{word_limit}
use Rattle.relaxation.specs.Limits.{weight_limit}
use Rattle.buffers.specs.Lists.{sum}
use Rattle.relaxation.specs.Network.{Shaped}
use Rattle.transport.specs.Shift.{shifted, Cancels, CarriesOn, CarriesBack}
use Rattle.buffers.proofs.ListLaws.{set_cases}
use Rattle.transport.proofs.SumLaws.{sum-add, sum-sub, sum-ge, flux-add, flux-sub, spread-add, spread-sub}
use Rattle.transport.proofs.FlowLaws.{owed-equal}

module _ (xs : List ℕ) (u w d : ℕ) (iu : u < length xs) (iw : w < length xs) (le : d ≤ at xs u) where
  pub shift-inside : w < length (set xs u (at xs u - d))
  shift-inside = subst (λ (k : ℕ). w < k) (sym (length-set xs u (at xs u - d))) iw

  pub shift-long : length (shifted xs u w d) ≡ length xs
  unfolding shifted
  shift-long = length-set (set xs u (at xs u - d)) w _ ∙ length-set xs u _

  pub shift-sum : sum (shifted xs u w d) ≡ sum xs
  unfolding shifted
  shift-sum = omega (arith, sum-sub xs u d iu le, sum-add (set xs u (at xs u - d)) w d shift-inside)

  pub shift-spread : (z : ℕ → ℕ) → spread (shifted xs u w d) z + d * z u ≡ spread xs z + d * z w
  unfolding shifted
  shift-spread z = omega (arith, spread-sub xs z u d iu le, spread-add (set xs u (at xs u - d)) z w d shift-inside)

  -- what is put on entry w fits, since all entries together are small
  pub shift_fits : sum xs < weight_limit → at (set xs u (at xs u - d)) w + d < word_limit
  shift_fits s = omega (arith, sum-sub xs u d iu le, sum-ge (set xs u (at xs u - d)) w)

module _ (from to gap : List ℕ) (flow : List ℕ) (z : ℕ → ℕ) (a : ℕ) (ia : a < length flow) (h : Held from to gap flow z) where
  -- a tight edge may carry any flow
  pub held_on : (x : ℕ) → z (at to a) ≤ z (at from a) + at gap a → Held from to gap (set flow a x) z
  held_on x t = record {
    kept = h.kept;
    tight = λ b k. set_cases (λ (f : ℕ). 0 < f → z (at to b) ≤ z (at from b) + at gap b) flow a x b ia
        (λ q u. subst (λ (j : ℕ). z (at to j) ≤ z (at from j) + at gap j) q t) (λ ne. h.tight b k);
  }

  -- and an edge may always carry less
  pub held_back : (x : ℕ) → a < length from → x ≤ at flow a → Held from to gap (set flow a x) z
  held_back x k le = record {
    kept = h.kept;
    tight = λ b l. set_cases (λ (f : ℕ). 0 < f → z (at to b) ≤ z (at from b) + at gap b) flow a x b ia
        (λ q u. subst (λ (j : ℕ). z (at to j) ≤ z (at from j) + at gap j) q (h.tight a k (omega arith))) (λ ne. h.tight b l);
  }

module _ (from to gap g : List ℕ) (n : ℕ) (y : List ℕ) (shape : Shaped from to gap n) (few : sum g < weight_limit)
    (flow supply demand : List ℕ) (r : Flows from to gap g n y flow supply demand) where
  pub supply-few : sum supply < weight_limit
  supply-few = omega (arith, r.few)

  pub demand-is : sum demand ≡ sum supply
  demand-is = owed-equal from to flow g supply demand r.owed

  pub demand-few : sum demand < weight_limit
  demand-few = omega (arith, r.few, demand-is)

  pub demand-fits : (i : ℕ) → at flow i + sum demand < word_limit
  demand-fits i = omega (arith, r.small i, demand-is)

  -- What a node has both to send and to get cancels: the two sides of the balance lose the same.
  pub cancels : (v : ℕ) → v < n → (supply' demand' : List ℕ) → Cancels supply demand v supply' demand' → Flows from to gap g n y flow supply' demand'
  cancels v h supply' demand' (Cancels.off d ls ld es ed) =
      let in-supply : v < length supply = omega (arith, r.supply_long) in
      let in-demand : v < length demand = omega (arith, r.demand_long) in
      rw (es, ed) (record {
        flow_long = r.flow_long;
        supply_long = length-set supply v _ ∙ r.supply_long;
        demand_long = length-set demand v _ ∙ r.demand_long;
        held = r.held;
        owed = record { test = λ z. omega (arith, r.owed.test z, spread-sub supply z v d in-supply ls, spread-sub demand z v d in-demand ld) };
        small = λ i. omega (arith, r.small i, sum-sub supply v d in-supply ls);
        few = omega (arith, r.few, sum-sub supply v d in-supply ls);
      })

  module _ (a : ℕ) (h : a < length from) where
    pub in-flow : a < length flow
    in-flow = omega (arith, r.flow_long)

    pub from-supply : at from a < length supply
    from-supply = omega (arith, r.supply_long, shape.from_in a h)

    pub to-supply : at to a < length supply
    to-supply = omega (arith, r.supply_long, shape.to_in a h)

    pub from-demand : at from a < length demand
    from-demand = omega (arith, r.demand_long, shape.from_in a h)

    pub to-demand : at to a < length demand
    to-demand = omega (arith, r.demand_long, shape.to_in a h)

    small-on : (d : ℕ) → at flow a + d ≤ weight_limit → (i : ℕ) → at (set flow a (at flow a + d)) i + sum supply < word_limit
    small-on d le i =
        set_cases (λ (x : ℕ). x + sum supply < word_limit) flow a (at flow a + d) i in-flow (λ q. omega (arith, supply-few)) (λ ne. r.small i)

    small-back : (d : ℕ) → (i : ℕ) → at (set flow a (at flow a - d)) i + sum supply < word_limit
    small-back d i =
        set_cases (λ (x : ℕ). x + sum supply < word_limit) flow a (at flow a - d) i in-flow (λ q. omega (arith, r.small a)) (λ ne. r.small i)

    -- Supply goes over a tight edge as a whole: the flow brings to the head what the tail no longer sends.
    pub supply-on : at y (at to a) ≡ at y (at from a) + at gap a → (flow' supply' : List ℕ)
        → CarriesOn flow supply a (at from a) (at to a) flow' supply' → Flows from to gap g n y flow' supply' demand
    supply-on t flow' supply' (CarriesOn.stays ef es) = rw (ef, es) r
    supply-on t flow' supply' (CarriesOn.moves d le top ef es) = rw (ef, es) (record {
      flow_long = length-set flow a _ ∙ r.flow_long;
      supply_long = shift-long supply (at from a) (at to a) d from-supply to-supply le ∙ r.supply_long;
      demand_long = r.demand_long;
      held = held_on from to gap flow (at y) a in-flow r.held (at flow a + d) (omega arith);
      owed = record {
        test = λ z. omega (
          arith,
          r.owed.test z,
          flux-add flow to z a d in-flow,
          flux-add flow from z a d in-flow,
          shift-spread supply (at from a) (at to a) d from-supply to-supply le z,
        );
      };
      small = λ i. omega (arith, small-on d top i, shift-sum supply (at from a) (at to a) d from-supply to-supply le);
      few = omega (arith, r.few, shift-sum supply (at from a) (at to a) d from-supply to-supply le);
    })

    -- Against the edge it goes as far as there is flow to take back.
    pub supply-back : (flow' supply' : List ℕ) → CarriesBack flow supply a (at to a) (at from a) flow' supply'
        → Flows from to gap g n y flow' supply' demand
    supply-back flow' supply' (CarriesBack.moves d le lf ef es) = rw (ef, es) (record {
      flow_long = length-set flow a _ ∙ r.flow_long;
      supply_long = shift-long supply (at to a) (at from a) d to-supply from-supply le ∙ r.supply_long;
      demand_long = r.demand_long;
      held = held_back from to gap flow (at y) a in-flow r.held (at flow a - d) h (omega arith);
      owed = record {
        test = λ z. omega (
          arith,
          r.owed.test z,
          flux-sub flow to z a d in-flow lf,
          flux-sub flow from z a d in-flow lf,
          shift-spread supply (at to a) (at from a) d to-supply from-supply le z,
        );
      };
      small = λ i. omega (arith, small-back d i, shift-sum supply (at to a) (at from a) d to-supply from-supply le);
      few = omega (arith, r.few, shift-sum supply (at to a) (at from a) d to-supply from-supply le);
    })

    -- Demand goes the other way: from the head to the tail as a whole,
    pub demand-on : at y (at to a) ≡ at y (at from a) + at gap a → (flow' demand' : List ℕ)
        → CarriesOn flow demand a (at to a) (at from a) flow' demand' → Flows from to gap g n y flow' supply demand'
    demand-on t flow' demand' (CarriesOn.stays ef es) = rw (ef, es) r
    demand-on t flow' demand' (CarriesOn.moves d le top ef es) = rw (ef, es) (record {
      flow_long = length-set flow a _ ∙ r.flow_long;
      supply_long = r.supply_long;
      demand_long = shift-long demand (at to a) (at from a) d to-demand from-demand le ∙ r.demand_long;
      held = held_on from to gap flow (at y) a in-flow r.held (at flow a + d) (omega arith);
      owed = record {
        test = λ z. omega (
          arith,
          r.owed.test z,
          flux-add flow to z a d in-flow,
          flux-add flow from z a d in-flow,
          shift-spread demand (at to a) (at from a) d to-demand from-demand le z,
        );
      };
      small = small-on d top;
      few = r.few;
    })

    -- from the tail to the head as far as there is flow to take back.
    pub demand-back : (flow' demand' : List ℕ) → CarriesBack flow demand a (at from a) (at to a) flow' demand'
        → Flows from to gap g n y flow' supply demand'
    demand-back flow' demand' (CarriesBack.moves d le lf ef es) = rw (ef, es) (record {
      flow_long = length-set flow a _ ∙ r.flow_long;
      supply_long = r.supply_long;
      demand_long = shift-long demand (at from a) (at to a) d from-demand to-demand le ∙ r.demand_long;
      held = held_back from to gap flow (at y) a in-flow r.held (at flow a - d) h (omega arith);
      owed = record {
        test = λ z. omega (
          arith,
          r.owed.test z,
          flux-sub flow to z a d in-flow lf,
          flux-sub flow from z a d in-flow lf,
          shift-spread demand (at from a) (at to a) d from-demand to-demand le z,
        );
      };
      small = small-back d;
      few = r.few;
    })
