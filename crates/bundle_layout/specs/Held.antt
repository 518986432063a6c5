-- The shadows that a bundle holds, as its table and bodies say, and what it means that bytes are the bundle of given shadows.
use Rattle.std.specs.Prelude.{◌≡◌, true, false, List, [], ◌∷◌, map, ℕ, length, get_or, take, drop}
use Rattle.lists.specs.Tab.{tab}
use Rattle.bundle_layout.specs.Blocks.{blocks_of}
use Rattle.bundle_layout.specs.Shape.{bad_bundle_shape}
use Rattle.bundle_storage.specs.Bytes.{Bytes}
use Rattle.bundle_layout.specs.Fields.{held_in, blocks_in, position_in, count_in}
use Rattle.bundle_layout.specs.Layout.{start_of}
use Rattle.bundle_storage.specs.Rising.{rises}
use Rattle.bundle_layout.specs.Shadows.{Shadow, bundle_of}
use Rattle.bundle_storage.specs.Storage.{body_size, body_good}

-- 0, 1, .., m - 1
unfoldable pub up_to : ℕ → List ℕ
up_to m = tab m (λ t. t)

-- the shadow of entry t
unfoldable pub shadow_in : List ℕ → ℕ → Shadow
shadow_in s t =
    record {
      position = position_in s t;
      count = count_in s t;
      body = take (body_size (blocks_in s) (count_in s t)) (drop (start_of s t) s);
    }

unfoldable pub shadows_in : List ℕ → List Shadow
shadows_in s = map (shadow_in s) (up_to (held_in s))

unfoldable pub positions_of : List Shadow → List ℕ
positions_of hs = map (λ h. h.position) hs

-- a shadow whose body is one of B blocks
pub record Stored (B : ℕ) (h : Shadow) : Type 0 where
  pub long : length h.body ≡ body_size B h.count
  pub good : body_good B h.count h.body ≡ true
  pub bytes : Bytes h.body

unfoldable pub AllStored : ℕ → List Shadow → Type 0
AllStored B [] = Unit {0}
AllStored B (h ∷ hs) = Stored B h × AllStored B hs

-- s is the bundle of a file of L bytes with k and n that holds these shadows
pub record IsBundle (k n L : ℕ) (hs : List Shadow) (s : List ℕ) : Type 0 where
  pub shape : bad_bundle_shape k n L ≡ false
  pub rising : rises n (length hs) (λ t. get_or (positions_of hs) t 0) ≡ true
  pub stored : AllStored (blocks_of k L) hs
  pub written : s ≡ bundle_of k n L hs
