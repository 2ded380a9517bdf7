-- Numbers with the same decimal text are equal in their order.
use Rattle.std.proofs.Common.{◌≡◌, ◌∙◌, sym, ap, subst, ℕ, ℤ, pos, nat_abs}
use Rattle.std.proofs.lemmas.Cmp.{int_cmp_total, nat_cmp_total, tied_itself}
use Rattle.std.specs.Ordering.{int_cmp, nat_cmp}
use Rattle.std.specs.declared.cmp.Ordering.TheVariants.{Equal}
use Rattle.ufmt_core.specs.Decimal.{decimal, DenotesDecimal}
use Rattle.ufmt.specs.Document.{leaf}
use Rattle.ufmt_core.proofs.DecimalTexts.{decimal-denotes, DenotesDecimal-number}

-- no two numbers have the same text
pub same_decimal : (y z : ℤ) → decimal y ≡ decimal z → y ≡ z
same_decimal y z same = DenotesDecimal-number (decimal y) y z (decimal-denotes y) (subst (λ text. DenotesDecimal text z) (sym same) (decimal-denotes z))

same_number : (y z : ℤ) → leaf (decimal y) ≡ leaf (decimal z) → y ≡ z
same_number y z same = let texts : decimal y ≡ decimal z = cc in same_decimal y z texts

pub naturals_equal : (x y : ℕ) → leaf (decimal (pos x)) ≡ leaf (decimal (pos y)) → nat_cmp x y ≡ Equal
naturals_equal x y same = ap (λ z. nat_cmp x (nat_abs z)) (sym (same_number (pos x) (pos y) same)) ∙ tied_itself nat_cmp_total x

pub integers_equal : (y z : ℤ) → leaf (decimal y) ≡ leaf (decimal z) → int_cmp y z ≡ Equal
integers_equal y z same = ap (int_cmp y) (sym (same_number y z same)) ∙ tied_itself int_cmp_total y
