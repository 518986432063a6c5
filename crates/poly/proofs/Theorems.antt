-- The proofs of specs/Theorems.antt, each under its name there in small letters.
-- Assumes nothing.
use native.Mathlib.Nat.{le_of_eq}
use Rattle.poly.specs.Interpolation.{through}
use Rattle.poly.specs.Theorems.{PlainSum, EvenOdd, Division, VanishingIsZero, Unique, InterpolationFits, InterpolationUnique, ProductValue, ProductRoots, ProductMonic, AllRoots, RootsOfUnity}
use Rattle.poly.proofs.AllRoots as Roots
use Rattle.poly.proofs.Counting as Counting
use Rattle.poly.proofs.Division.{divided}
use Rattle.poly.proofs.Interpolation.{through_length, through_symbols, through_fits, through_unique}
use Rattle.poly.proofs.Products as Products
use Rattle.poly.proofs.Symbols.{symbols_at, symbols_every}
use Rattle.poly.proofs.Values as Value

pub plain_sum : PlainSum
plain_sum = Value.plain_sum

pub even_odd : EvenOdd
even_odd = Value.split

pub division : Division
division = divided

pub vanishing_is_zero : VanishingIsZero
vanishing_is_zero xs s size = Counting.vanishing_is_zero xs s (le_of_eq size)

pub unique : Unique
unique xs s t size-s size-t apart low-s low-t same =
    Counting.unique xs s t size-s size-t apart (symbols_every s low-s) (symbols_every t low-t) same

pub interpolation_fits : InterpolationFits
interpolation_fits xs ys size apart = (
  through_length xs ys size,
  symbols_at (through xs ys) (through_symbols xs ys),
  through_fits xs ys size apart,
)

pub interpolation_unique : InterpolationUnique
interpolation_unique xs ys s size apart size-s low fits = through_unique xs ys s size apart size-s (symbols_every s low) fits

pub product_value : ProductValue
product_value = Products.product_value

pub product_roots : ProductRoots
product_roots zs = (Products.vanishing_roots zs, Products.vanishing_apart zs)

pub product_monic : ProductMonic
product_monic zs = (Products.vanishing_length zs, Products.vanishing_last zs)

pub all_roots : AllRoots
all_roots = Roots.all_roots

pub roots_of_unity : RootsOfUnity
roots_of_unity = Roots.roots_of_unity
