-- Bytes that pass the tests of the layout are the bundle of what is read of them.
-- Assumes nothing.
use mathlib.Core.Path.{◌≡◌, refl, sym, ap, ◌∙◌}
use mathlib.Core.Bool.{true, not}
use mathlib.Core.List.{List, [], ◌++◌, map, append_assoc, append-nil}
use Prim.Native.Nat.{ℕ, zero, suc, ◌+◌, ◌*◌, ◌<◌, ◌≤◌}
use native.Mathlib.Omega.{arith}
use borrow.Author.Tests.{eqb-true, not-false}
use lib.Dec.{eqb}
use lib.ListN.{length, get_or, take, drop, length-map, take-append-drop, drop_of_length-le}
use lib.Seq.{length-take-le, get_or-take, ext_get_or, drop-drop}
use Rattle.answers.specs.Refusals.{the_result}
use Rattle.lists.specs.Tab.{tab}
use Rattle.bundle_storage.specs.Bytes.{Bytes, two, four}
use Rattle.bundle_layout.specs.Fields.{k_in, n_in, length_in, held_in, last_in, blocks_in, entry_at, position_in, count_in, offset_in}
use Rattle.bundle_layout.specs.Held.{up_to, shadow_in, shadows_in, positions_of, Stored, AllStored, IsBundle}
use Rattle.bundle_layout.specs.Layout.{start_of, layout_checks}
use Rattle.bundle_layout.specs.Mark.{mark, starts_with}
use Rattle.bundle_layout.specs.Shadows.{Shadow, header_size, entry_size, first_body, header, entry, table, bodies, bundle_of}
use Rattle.bundle_storage.specs.Storage.{body_size}
use Rattle.bundle_storage.proofs.BytesLaws.{alike_take, bytes_take, bytes_drop, two_split, four_split}
use Rattle.bundle_storage.proofs.RisingLaws.{none_found, rises_same}
use Rattle.bundle_storage.proofs.Storing.{good_parts, good_moved}
use Rattle.bundle_layout.proofs.Passing.{tests_passed, header_inside, begins_with_mark, ends_header, table_inside, bodies_end, offset_is_start, body_passed, positions_rise}
use Rattle.bundle_layout.proofs.Holding.{position_at, made_at, made_stored, all_length, all_at}

-- bytes that begin with others
starts_with_lem : (bytes s : List ℕ) → length bytes ≤ length s → starts_with bytes s ≡ true → s ≡ bytes ++ drop (length bytes) s
unfolding starts_with
starts_with_lem bytes s h same =
    let size = length-take-le (length bytes) s h in
    sym (take-append-drop (length bytes) s)
    ∙ ap (◌++ drop (length bytes) s)
    (ext_get_or 0 (take (length bytes) s) bytes size
    (λ i l. get_or-take (length bytes) s i 0 (omega arith)
    ∙ eqb-true _ _ (not-false _ (none_found (length bytes) (λ i. not (eqb (get_or s i 0) (get_or bytes i 0))) same i (omega arith)))))

three : (a b c q : List ℕ) → (a ++ (b ++ c)) ++ q ≡ a ++ (b ++ (c ++ q))
three a b c q = simp append_assoc

six : (a b c d e f q : List ℕ) → (a ++ (b ++ (c ++ (d ++ (e ++ f))))) ++ q ≡ a ++ (b ++ (c ++ (d ++ (e ++ (f ++ q)))))
six a b c d e f q = simp append_assoc

module _ (s : List ℕ) (bytes : Bytes s) (passes : layout_checks s ≡ the_result []) where
  -- A shadow

  stored_there : (t : ℕ) → t < held_in s → Stored (blocks_in s) (shadow_in s t)
  unfolding shadow_in body_size
  stored_there t h =
      let size = body_size (blocks_in s) (count_in s t) in
      let rest = drop (start_of s t) s in
      let good = body_passed s passes t h in
      let long = length-take-le size rest (good_parts (blocks_in s) (count_in s t) rest good).0 in
      record {
        long = long;
        good =
            good_moved (blocks_in s) (count_in s t) rest (take size rest) (omega (arith, long))
            (λ d l. sym (alike_take (2 * count_in s t) size rest 0 (omega arith) d l)) good;
        bytes = bytes_take size rest (bytes_drop (start_of s t) s bytes);
      }

  -- What is written

  header_there : s ≡ header (k_in s) (n_in s) (length_in s) (held_in s) ++ drop header_size s
  unfolding header header_size mark k_in n_in length_in held_in last_in
  header_there =
      let long = header_inside s passes in
      starts_with_lem mark s (omega arith) (begins_with_mark s passes)
      ∙ ap (mark ++◌)
      (two_split s 4 6 bytes refl (omega arith)
      ∙ ap (two (k_in s) ++◌)
      (two_split s 6 8 bytes refl (omega arith)
      ∙ ap (two (n_in s) ++◌)
      (four_split s 8 12 bytes refl (omega arith)
      ∙ ap (four (length_in s) ++◌)
      (two_split s 12 14 bytes refl (omega arith)
      ∙ ap (two (held_in s) ++◌) (two_split s 14 16 bytes refl long ∙ ap (λ (x : ℕ). two x ++ drop 16 s) (ends_header s passes))))))
      ∙ sym (six mark (two (k_in s)) (two (n_in s)) (four (length_in s)) (two (held_in s)) (two 0) (drop 16 s))

  entry_there : (t : ℕ) → t < held_in s → drop (entry_at t) s ≡ entry (shadow_in s t) (start_of s t) ++ drop (entry_at (suc t)) s
  unfolding entry entry_at entry_size first_body shadow_in position_in count_in offset_in
  entry_there t h =
      let long = table_inside s passes in
      two_split s (entry_at t) (entry_at t + 2) bytes refl (omega arith)
      ∙ ap (two (position_in s t) ++◌)
      (two_split s (entry_at t + 2) (entry_at t + 4) bytes (omega arith) (omega arith)
      ∙ ap (two (count_in s t) ++◌)
      (four_split s (entry_at t + 4) (entry_at (suc t)) bytes (omega arith) (omega arith)
      ∙ ap (λ (x : ℕ). four x ++ drop (entry_at (suc t)) s) (offset_is_start s passes t h)))
      ∙ sym (three (two (position_in s t)) (two (count_in s t)) (four (start_of s t)) (drop (entry_at (suc t)) s))

  body_there : (t : ℕ) → drop (start_of s t) s ≡ (shadow_in s t).body ++ drop (start_of s (suc t)) s
  unfolding start_of shadow_in
  body_there t =
      let size = body_size (blocks_in s) (count_in s t) in
      sym (take-append-drop size (drop (start_of s t) s))
      ∙ ap (take size (drop (start_of s t) s) ++◌) (drop-drop size (start_of s t) s)

  next_start : (t : ℕ) → t < held_in s → start_of s t + length (shadow_in s t).body ≡ start_of s (suc t)
  unfolding start_of shadow_in
  next_start t h = ap (start_of s t +◌) (stored_there t h).long

  -- the same for those from a up to z

  table_there : (j a z : ℕ) (g : ℕ → ℕ) → ((i : ℕ) → g i ≡ a + i) → z ≡ a + j → z ≤ held_in s
      → drop (entry_at a) s ≡ table (start_of s a) (map (shadow_in s) (tab j g)) ++ drop (entry_at z) s
  unfolding table tab
  table_there zero a z g is e h = ap (λ (m : ℕ). drop (entry_at m) s) {x = a} {y = z} (omega arith)
  table_there (suc j) a z g is e h =
      let here : g 0 ≡ a = is 0 ∙ omega arith in
      rw (here, append_assoc (entry (shadow_in s a) (start_of s a)), next_start a (omega arith))
      (entry_there a (omega arith)
      ∙ ap (entry (shadow_in s a) (start_of s a) ++◌)
      (table_there j (suc a) z (λ i. g (suc i)) (λ i. is (suc i) ∙ omega arith) (omega arith) h))

  bodies_there : (j a z : ℕ) (g : ℕ → ℕ) → ((i : ℕ) → g i ≡ a + i) → z ≡ a + j
      → drop (start_of s a) s ≡ bodies (map (shadow_in s) (tab j g)) ++ drop (start_of s z) s
  unfolding bodies tab
  bodies_there zero a z g is e = ap (λ (m : ℕ). drop (start_of s m) s) {x = a} {y = z} (omega arith)
  bodies_there (suc j) a z g is e =
      let here : g 0 ≡ a = is 0 ∙ omega arith in
      rw (here, append_assoc (shadow_in s a).body)
      (body_there a
      ∙ ap ((shadow_in s a).body ++◌) (bodies_there j (suc a) z (λ i. g (suc i)) (λ i. is (suc i) ∙ omega arith) (omega arith)))

  rest_there : drop header_size s ≡ table (first_body (held_in s)) (shadows_in s) ++ bodies (shadows_in s)
  unfolding shadows_in up_to start_of first_body entry_at header_size entry_size
  rest_there =
      table_there (held_in s) 0 (held_in s) (λ t. t) (λ i. omega arith) (omega arith) (omega arith)
      ∙ ap (table (first_body (held_in s)) (shadows_in s) ++◌)
      (bodies_there (held_in s) 0 (held_in s) (λ t. t) (λ i. omega arith) (omega arith)
      ∙ ap (bodies (shadows_in s) ++◌) (drop_of_length-le s {i = start_of s (held_in s)} (omega (arith, bodies_end s passes)))
      ∙ append-nil (bodies (shadows_in s)))

  -- All of them

  held_length : length (shadows_in s) ≡ held_in s
  unfolding shadows_in
  held_length = length-map (up_to (held_in s)) (shadow_in s) ∙ all_length (held_in s)

  held_position : (t : ℕ) → t < held_in s → get_or (positions_of (shadows_in s)) t 0 ≡ position_in s t
  unfolding shadows_in shadow_in
  held_position t h =
      position_at (shadows_in s) t (omega (arith, held_length))
      ∙ ap (λ (x : Shadow). x.position) (made_at (shadow_in s) (up_to (held_in s)) t (omega (arith, all_length (held_in s))))
      ∙ ap (position_in s) (all_at (held_in s) t h)

  all_stored : AllStored (blocks_in s) (shadows_in s)
  unfolding shadows_in
  all_stored =
      made_stored (shadow_in s) (blocks_in s) (up_to (held_in s))
      (λ t h. let inside : t < held_in s = omega (arith, all_length (held_in s)) in
      rw (all_at (held_in s) t inside) (stored_there t inside))

  written : s ≡ bundle_of (k_in s) (n_in s) (length_in s) (shadows_in s)
  unfolding bundle_of
  written = rw held_length (header_there ∙ ap (header (k_in s) (n_in s) (length_in s) (held_in s) ++◌) rest_there)

  pub accepted_bundle : IsBundle (k_in s) (n_in s) (length_in s) (shadows_in s) s
  unfolding blocks_in
  accepted_bundle =
      record {
        shape = (tests_passed s passes).1;
        rising =
            rw held_length
            (rises_same (n_in s) (held_in s) (position_in s) _ (λ t h. sym (held_position t h)) (positions_rise s passes));
        stored = all_stored;
        written = written;
      }
