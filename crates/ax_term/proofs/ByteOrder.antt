-- The bytes of terms are in the order of terms.
use Rattle.std.proofs.Common.{◌≡◌, List, [], ◌∷◌, ◌++◌, length, refl, sym, ap, ◌∙◌, subst}
use Rattle.std.proofs.lemmas.Cmp.{tied_itself, nat_list_cmp_total}
use Rattle.std.specs.Cmp.Lexicographic.{slice_cmp}
use Rattle.std.specs.FinMap.{nat_cmp-IsAntisymmetric}
use Rattle.std.specs.Ordering.{ordering_then, nat_cmp}
use Rattle.ax_mean.specs.declared.query.Order.{Order}
use Rattle.ax_term.specs.CutValues.{CutValue}
use Rattle.ax_term.specs.Fitting.{IsTerm, IsComposite}
use Rattle.ax_term.specs.TermBytes.{path_bytes, value_bytes, columns_bytes, values_bytes, term_bytes}
use Rattle.ax_term.specs.TermOrder.{order_of_bytes, order_of_values, order_of_paths, order_of_columns, order_of_composites, order_of_value_lists, order_of_terms}
use Rattle.ax_term.specs.Terms.{Term}
use Rattle.ax_term.proofs.Decided.{Decides, decides_both, decides_byte, alone}
use Rattle.ax_term.proofs.InOrder.{decides_values, decides_paths, decides_columns, decides_value_lists}
use Rattle.ax_term.proofs.OneTerm.{one_composite, one_term}

-- the number of paths, and the paths
decides_composites : (p q : List Order)
    → Decides (length p ∷ columns_bytes p) (length q ∷ columns_bytes q) (order_of_composites p q)
decides_composites p q =
    decides_both (length p ∷ []) (length q ∷ []) (nat_cmp (length p) (length q)) (columns_bytes p)
    (columns_bytes q) (slice_cmp order_of_columns p q) (decides_byte (length p) (length q))
    (λ e. decides_columns p q (nat_cmp-IsAntisymmetric (length p) (length q) e))

-- and the values, where the paths are the same
decides_whole : (p q : List Order) (a b : List CutValue) → IsComposite p a → IsComposite q b
    → Decides (length p ∷ columns_bytes p ++ values_bytes p a)
    (length q ∷ columns_bytes q ++ values_bytes q b)
    (ordering_then (order_of_composites p q) (order_of_value_lists p a b))
decides_whole p q a b h k =
    decides_both (length p ∷ columns_bytes p) (length q ∷ columns_bytes q) (order_of_composites p q)
    (values_bytes p a) (values_bytes q b) (order_of_value_lists p a b) (decides_composites p q)
    (λ e. same (one_composite p q e))
  where
    same : p ≡ q → Decides (values_bytes p a) (values_bytes q b) (order_of_value_lists p a b)
    same e =
        subst (λ c. Decides (values_bytes p a) (values_bytes c b) (order_of_value_lists p a b)) e
        (decides_value_lists p a b h.as_many (k.as_many ∙ sym (ap length e)) h.values_fit k.values_fit)

pub byte_order : (s t : Term) → IsTerm s → IsTerm t
    → order_of_bytes (term_bytes s) (term_bytes t) ≡ order_of_terms s t
byte_order (Term.Id a) (Term.Id b) h k = refl
byte_order (Term.Plain p a) (Term.Plain q b) h k =
    alone (path_bytes p ++ value_bytes a) (path_bytes q ++ value_bytes b)
    (ordering_then (order_of_paths p q) (order_of_values a b))
    (decides_both (path_bytes p) (path_bytes q) (order_of_paths p q) (value_bytes a) (value_bytes b)
    (order_of_values a b) (decides_paths p q) (λ e. decides_values a b h.1 k.1))
byte_order (Term.Composite p a) (Term.Composite q b) h k =
    alone (length p ∷ columns_bytes p ++ values_bytes p a) (length q ∷ columns_bytes q ++ values_bytes q b)
    (ordering_then (order_of_composites p q) (order_of_value_lists p a b)) (decides_whole p q a b h k)
byte_order s t h k = refl

pub equal_bytes : (s t : Term) → IsTerm s → IsTerm t → term_bytes s ≡ term_bytes t → s ≡ t
equal_bytes s t h k e =
    one_term s t h k
    (sym (byte_order s t h k) ∙ ap (order_of_bytes (term_bytes s)) (sym e)
    ∙ tied_itself nat_list_cmp_total (term_bytes s))
