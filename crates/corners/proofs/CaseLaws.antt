-- Corners worked out: their bits, as any reference on IEEE 754 gives them.
use mathlib.Core.Path.{◌≡◌, refl}
use mathlib.Core.List.{List, [], ◌∷◌}
use Prim.Native.Nat.{ℕ}
use lib.Ieee.{binary32, round, to_bits}
use Rattle.corners.specs.declared.Corner.{Corner}
use Rattle.corners.specs.Corners.{corner_of}

both : Corner → List ℕ
both c = to_bits binary32 c.x ∷ to_bits binary32 c.y ∷ []

-- 0 and 0; 12.5 and 7.25; 37.5 and 14.5; 1587.5 and 2755, farther than any chart with x goes
corners : both (corner_of 0 0) ∷ both (corner_of 1 1) ∷ both (corner_of 3 2) ∷ both (corner_of 127 380) ∷ []
    ≡ (0 ∷ 0 ∷ []) ∷ (0x4148_0000 ∷ 0x40e8_0000 ∷ []) ∷ (0x4216_0000 ∷ 0x4168_0000 ∷ []) ∷ (0x44c6_7000 ∷ 0x452c_3000 ∷ []) ∷ []
unfolding both corner_of round to_bits
corners = refl
