-- The order of pairs is total, and a pair is its term and its number.
use Rattle.std.proofs.Common.{◌≡◌, ℕ, List, refl}
use Rattle.std.proofs.lemmas.Cmp.{nat_list_cmp_total, nat_cmp_total, then_total, on_total}
use Rattle.std.specs.Cmp.{IsTotalOrder}
use Rattle.ax_pair.specs.declared.pair.Pair.{Pair}
use Rattle.ax_pair.specs.Order.{pair_cmp}

abbrev pub the_pair : List ℕ → ℕ → Pair
the_pair term number = record { term = term; number = number }

pub same_pair : (s t : List ℕ) (m n : ℕ) → s ≡ t → m ≡ n → the_pair s m ≡ the_pair t n
same_pair s t m n e f = rw (e, f) refl

pub pair_cmp_total : IsTotalOrder pair_cmp
pair_cmp_total = then_total (on_total (λ (p : Pair). p.term) nat_list_cmp_total) (on_total (λ (p : Pair). p.number) nat_cmp_total)
