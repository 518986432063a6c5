-- The message by division, and what decode then leaves: the message in the output or DISAGREE, and zero in the cells.
-- Assumes nothing.
use mathlib.Core.Path.{◌≡◌, sym, ap, ap₂, subst, ◌∙◌}
use mathlib.Core.Bool.{Bool, true, false, cond}
use mathlib.Core.List.{List, [], ◌++◌}
use mathlib.Core.Option.{Option, some, none}
use Prim.Native.Nat.{ℕ, ◌+◌, ◌-◌, ◌*◌, ◌<◌, ◌≤◌}
use native.Mathlib.Decide.{ℕ_discrete}
use native.Mathlib.Nat.{le_of_eq, le_trans}
use native.Mathlib.Omega.{arith}
use lib.Dec.{lit<}
use lib.ListN.{length, get_or, take, drop, replicate, length-append, length-drop}
use lib.Seq.{length-take-le, take_at, drop_at, drop-append-add, drop-drop}
use Rattle.field.specs.Field.{product}
use Rattle.answers.specs.Leaves.{leaving, written, zeroed}
use Rattle.answers.specs.Refusals.{the_result, refused}
use Rattle.limits.specs.Shape.{bad_shape}
use Rattle.field.specs.Size.{size_of}
use Rattle.field.specs.Symbol.{Symbols}
use Rattle.answers.specs.declared.refusal.Refusal.TheVariants.{Disagree}
use Rattle.answers.proofs.Leaves.{zeroed_all}
use Rattle.field.proofs.Ring.{product_lt}
use Rattle.limits.proofs.Shape.{shape_good, longest_le}
use Rattle.field.proofs.Sizes.{size_enough, size_small}
use Rattle.lists.proofs.Tab.{tab_at}
use Rattle.code.specs.Decoded.{decoded}
use Rattle.code.specs.Decoding.{decode_of}
use Rattle.code.specs.Held.{Held}
use Rattle.code.specs.Meeting.{message_of}
use Rattle.code.specs.Positions.{Inside}
use Rattle.code.specs.Decodable.{Decodable}
use Rattle.code.specs.Repeats.{Apart}
use Rattle.code.specs.Rooms.{decode_work}
use Rattle.code.proofs.Meeting.{message_is}
use Rattle.decode_between.specs.Foldable.{Foldable}
use Rattle.decode_between.proofs.Foldable.{room_of, table_kept}
use Rattle.decode_divide.specs.Dividing.{ZeroAt, Divided}
use Rattle.decode_divide.specs.Quotients.{InversesBetween}
use Rattle.decode_missing.specs.Marks.{Marks}
use Rattle.decode_missing.specs.Missing.{missing_points}
use Rattle.decode_missing.specs.Weights.{weights, Weighted}
use Rattle.decode_missing.proofs.Fitting.{counted, missing_in_lem, decodes}
use Rattle.decode_missing.proofs.Laying.{unmarked_le}
use Rattle.decode_missing.proofs.Unmarked.{unmarked_zero}
use Rattle.decode_prepare.specs.Prepared.{Prepared}
use Rattle.decode_block.specs.Multiplied.{Multiplied}

pub cells_enough : (k n : ℕ) (h : Held) → Decodable k n h → (cells : List ℕ) → length cells ≡ decode_work n → k ≤ length cells
unfolding decode_work
cells_enough k n h able cells long =
    let good = shape_good k n able.shape in
    omega (arith, good.1, size_enough n (le_trans good.2 longest_le), long)

-- The search for the message. N is what the call gives, mk the marks, e the values multiplied in

module _ (k n : ℕ) (h : Held) (able : Decodable k n h) (d : List ℕ) (long : length d ≡ decode_work n) (N : ℕ) (N-is : N ≡ size_of n) where
  long_N : length d ≡ 4 * N
  unfolding decode_work
  long_N = long ∙ ap (4 *◌) (sym N-is)

  pub in_range : (N ≤ 65536) × (3 * N ≤ length d)
  in_range = (size_small N n N-is, omega (arith, long_N))

  -- what is lent for the marks
  abbrev pub lent : List ℕ
  lent = take (3 * N - 2 * N) (drop (2 * N) d)

  lent_long : length lent ≡ N
  lent_long = length-take-le (3 * N - 2 * N) (drop (2 * N) d) (omega (arith, length-drop (2 * N) d, long_N)) ∙ difference_is
    where
      difference_is : 3 * N - 2 * N ≡ N
      difference_is = omega arith

  inside_N : Inside N h.positions
  inside_N t l =
      let good = shape_good k n able.shape in
      omega (arith, able.inside t l, size_enough n (le_trans good.2 longest_le), N-is)

  pub mark_asked : Inside (length lent) h.positions
  mark_asked = rw lent_long inside_N

  module _ (mk : List ℕ) (marks : Marks (length lent) h.positions mk) where
    abbrev pub marked : List ℕ
    marked = take (2 * N) d ++ (mk ++ drop (3 * N - 2 * N) (drop (2 * N) d))

    marks_N : Marks (size_of n) h.positions mk
    marks_N = subst (λ (x : ℕ). Marks x h.positions mk) (lent_long ∙ N-is) marks

    mk_long : length mk ≡ N
    mk_long = marks.long ∙ lent_long

    front_long : length (take (2 * N) d) ≡ 2 * N
    front_long = length-take-le (2 * N) d (omega (arith, long_N))

    pub marked_long : length marked ≡ length d
    marked_long =
        length-append (take (2 * N) d) _
        ∙ omega (arith, front_long, length-append mk (drop (3 * N - 2 * N) (drop (2 * N) d)), mk_long, length-drop (3 * N - 2 * N) (drop (2 * N) d), length-drop (2 * N) d, long_N)

    marks_there : take (size_of n) (drop (2 * size_of n) marked) ≡ mk
    marks_there =
        ap (λ (x : ℕ). take x (drop (2 * x) marked)) (sym N-is)
        ∙ ap (take N) (drop_at (take (2 * N) d) _ (2 * N) front_long)
        ∙ take_at mk _ N mk_long

    pub prepare_asked : (bad_shape k n ≡ false) × (length marked ≡ 4 * size_of n) × (length (missing_points (size_of n) (take (size_of n) (drop (2 * size_of n) marked))) < size_of n)
    prepare_asked = (
      able.shape,
      marked_long ∙ long_N ∙ ap (4 *◌) N-is,
      rw marks_there (omega (arith, counted k n h able mk marks_N, able.enough, (shape_good k n able.shape).0)),
    )

    module _ (r : ℕ) (s : List ℕ) (same : length s ≡ length marked) (prepared : Prepared k n (take (size_of n) (drop (2 * size_of n) marked)) r s) where
      p : Prepared k n mk r s
      p = subst (λ (x : List ℕ). Prepared k n x r s) marks_there prepared

      s_long : length s ≡ length d
      s_long = same ∙ marked_long

      -- what is lent for the values
      abbrev pub weighing : List ℕ
      weighing = take (N - 0) s

      weighing_is : weighing ≡ weights (size_of n) (missing_points (size_of n) mk)
      weighing_is = ap (λ (x : ℕ). take x s) {x = N - 0} {y = size_of n} (omega (arith, N-is)) ∙ p.weighs

      weighing_long : length weighing ≡ N
      weighing_long = length-take-le (N - 0) s (omega (arith, s_long, long_N)) ∙ plain
        where
          plain : N - 0 ≡ N
          plain = omega arith

      pub multiply_asked : (length h.positions ≡ length h.values) × Inside (length weighing) h.positions × Apart h.positions
      multiply_asked = (able.paired, rw weighing_long inside_N, able.apart)

      module _ (e : List ℕ) (m : Multiplied (length h.positions) h.positions h.values weighing e) where
        abbrev pub multiplied : List ℕ
        multiplied = e ++ drop (N - 0) s

        e_long : length e ≡ N
        e_long = m.long ∙ weighing_long

        pub multiplied_long : length multiplied ≡ length d
        multiplied_long = length-append e _ ∙ omega (arith, e_long, length-drop (N - 0) s, s_long, long_N)

        front_is : take (size_of n) multiplied ≡ e
        front_is = take_at e _ (size_of n) (e_long ∙ N-is)

        rest_is : (x : ℕ) → N ≤ x → drop x multiplied ≡ drop x s
        rest_is x l =
            ap (λ (y : ℕ). drop y multiplied) {x = x} {y = length e + (x - N)} (omega (arith, e_long))
            ∙ drop-append-add e (drop (N - 0) s) (x - N)
            ∙ drop-drop (x - N) (N - 0) s
            ∙ ap (λ (y : ℕ). drop y s) {x = N - 0 + (x - N)} {y = x} (omega arith)

        weighted : Weighted (size_of n) mk h e
        weighted =
            record {
              long = e_long ∙ N-is;
              at = λ t l. m.at t l ∙ ap (λ (x : List ℕ). product (get_or h.values t 0) (get_or x (get_or h.positions t 0) 0)) weighing_is;
              none = λ j l free. m.other j (λ t k is. marks_N.held t k (ap (λ (x : ℕ). get_or mk x 0) is ∙ free)) ∙ ap (λ (x : List ℕ). get_or x j 0) weighing_is ∙ zero_weight j l free;
            }
          where
            zero_weight : (j : ℕ) → j < size_of n → get_or mk j 0 ≡ 0 → get_or (weights (size_of n) (missing_points (size_of n) mk)) j 0 ≡ 0
            zero_weight j l free = unfold weights in tab_at (size_of n) _ j l ∙ (unmarked_zero n mk (size_of n) j l free).mods

        e_symbols : Symbols e
        e_symbols j l = at (ℕ_discrete (get_or mk j 0) 0)
          where
            j_inside : j < size_of n
            j_inside = omega (arith, e_long, N-is)

            at : Dec (get_or mk j 0 ≡ 0) → get_or e j 0 < 65537
            at (yes free) = rw (weighted.none j j_inside free) (lit< tt)
            at (no taken) =
                let held = marks_N.only j j_inside taken in
                rw (sym held.2) (rw (weighted.at held.0 held.1) (product_lt _ _))

        pub divide_asked : (bad_shape k n ≡ false) × Foldable (size_of n) (size_of k) multiplied × (r ≤ size_of n)
        divide_asked = (
          able.shape,
          room_of k n multiplied able.shape
              (table_kept (size_of n) s p.table multiplied (multiplied_long ∙ sym s_long) (rest_is (3 * size_of n) (omega (arith, N-is))))
              (subst Symbols (sym front_is) e_symbols),
          le_trans (le_of_eq p.counted) (unmarked_le (size_of n) mk (size_of n)),
        )

        pub message_found : (b : Bool) (t : List ℕ)
            → ((zs : List ℕ) → length zs ≡ r → ZeroAt k zs (take (size_of n) multiplied) → (0 < r → InversesBetween (size_of n) (size_of k) zs (drop (2 * size_of n) multiplied)) → Divided b k zs (take (size_of n) multiplied) (take k t))
            → decode_of k n h ≡ cond b (some (message_of (take k t))) none
        message_found b t answer =
            decodes k n h able mk marks_N e weighted b (take k t)
            (rw (sym front_is)
            (answer (missing_points (size_of n) mk) (sym p.counted) (rw front_is (missing_in_lem k n h able mk marks_N e weighted))
            (λ some. subst (InversesBetween (size_of n) (size_of k) (missing_points (size_of n) mk)) (sym (rest_is (2 * size_of n) (omega (arith, N-is)))) (p.inverses some))))

-- What is left: s is what the cells hold when the message is sought, cleared what they hold at the end

module _ (k n : ℕ) (h : Held) (out cells s cleared : List ℕ) (long : length cells ≡ decode_work n) (same : length s ≡ length cells) (clear : cleared ≡ replicate (length s) 0) where
  all_zero : cleared ≡ zeroed (decode_work n) cells
  all_zero = clear ∙ ap (λ (m : ℕ). replicate m 0) (same ∙ long) ∙ sym (zeroed_all (decode_work n) cells long)

  pub recovered : (b : Bool) (o : List ℕ) → decode_of k n h ≡ cond b (some (message_of (take k s))) none → b ≡ true
      → o ≡ written (take (k - 0) s) out → leaving (the_result []) o cleared ≡ decoded (decode_of k n h) n out cells
  recovered b o decodes fits is =
      ap₂ (leaving (the_result []))
      (is ∙ ap (λ (m : ℕ). written (take m s) out) {x = k - 0} {y = k} (omega arith) ∙ ap (λ (t : List ℕ). written t out) (sym (message_is (take k s))))
      all_zero
      ∙ ap (λ (x : Option (List ℕ)). decoded x n out cells)
      (sym (decodes ∙ ap (λ (x : Bool). cond x (some (message_of (take k s))) none) fits))

  pub disagreed : (b : Bool) → decode_of k n h ≡ cond b (some (message_of (take k s))) none → b ≡ false
      → leaving (refused (Disagree 0)) out cleared ≡ decoded (decode_of k n h) n out cells
  disagreed b decodes wrong =
      ap (leaving (refused (Disagree 0)) out) all_zero
      ∙ ap (λ (x : Option (List ℕ)). decoded x n out cells)
      (sym (decodes ∙ ap (λ (x : Bool). cond x (some (message_of (take k s))) none) wrong))
