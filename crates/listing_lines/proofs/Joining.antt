-- The lines as their pieces come: words with their numbers, one behind the other.
-- Assumes nothing.
use mathlib.Core.Path.{◌≡◌, refl, ap₂, ◌∙◌}
use mathlib.Core.List.{List, ◌++◌, append_assoc}
use Prim.Native.Nat.{ℕ}
use Rattle.answers.specs.Refusals.{number_of, place_of, refused}
use Rattle.answers.specs.declared.refusal.Refusal.{Refusal}
use Rattle.listing_lines.specs.Lines.{header_line, entry_line, last_line}
use Rattle.listing_lines.specs.Text.{ascii, decimal}

-- two words with their numbers and what stands behind them, and five
two_joined : (a k b n f : List ℕ) → ((a ++ k) ++ (b ++ n)) ++ f ≡ a ++ (k ++ (b ++ (n ++ f)))
two_joined a k b n f = simp append_assoc refl

five_joined : (a k b n c l d m e o f : List ℕ)
    → (((((a ++ k) ++ (b ++ n)) ++ (c ++ l)) ++ (d ++ m)) ++ (e ++ o)) ++ f ≡ a ++ (k ++ (b ++ (n ++ (c ++ (l ++ (d ++ (m ++ (e ++ (o ++ f)))))))))
five_joined a k b n c l d m e o f = simp append_assoc refl

pub header_joined : (k n length held blocks : ℕ)
    → (((((ascii "k " ++ decimal k) ++ (ascii " n " ++ decimal n)) ++ (ascii " length " ++ decimal length)) ++ (ascii " held " ++ decimal held)) ++ (ascii " blocks " ++ decimal blocks)) ++ ascii "\n"
    ≡ header_line k n length held blocks
unfolding header_line
header_joined k n length held blocks =
    five_joined (ascii "k ") (decimal k) (ascii " n ") (decimal n) (ascii " length ") (decimal length) (ascii " held ") (decimal held) (ascii " blocks ") (decimal blocks) (ascii "\n")

pub entry_joined : (position offset count : ℕ)
    → ((decimal position ++ (ascii " " ++ decimal offset)) ++ (ascii " " ++ decimal count)) ++ ascii "\n" ≡ entry_line position offset count
unfolding entry_line
entry_joined position offset count = simp append_assoc refl

pub refused_joined : (x : Refusal) (number place : ℕ) → number ≡ number_of x → place ≡ place_of x
    → ((ascii "REFUSED " ++ decimal number) ++ (ascii " " ++ decimal place)) ++ ascii "\n" ≡ last_line (refused x)
unfolding last_line
refused_joined x number place n p =
    two_joined (ascii "REFUSED ") (decimal number) (ascii " ") (decimal place) (ascii "\n")
    ∙ ap₂ (λ (i j : ℕ). ascii "REFUSED " ++ (decimal i ++ (ascii " " ++ (decimal j ++ ascii "\n")))) n p
