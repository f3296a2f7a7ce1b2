-- `Members` as a type that may hold the type that holds it, by the values of its members.
use mathlib.Core.Path.{◌≡◌, refl, sym, ap, ◌∙◌}
use mathlib.Core.Bool.{Bool-set}
use mathlib.Core.List.{List, [], ◌∷◌, map}
use mathlib.Core.Former.{Former, this, const, pair, list, via, children}
use base.Stored.{code_map, gcons, coded_list, coded_ℕ}
use denote.RattleType.{RattleType}
use denote.HoleLaws.{Alike}
use denote.HolePlaces.{Recodes, struct_places, laid, stays}
use denote.Hole.Carrier.{listed}
use denote.Hole.Fix.{over}
use denote.Param.Weighed.{Weighed, w_list, w_via, w_pair, w_const}
use denote.Model.Placed.{view_places}
use Rattle.std.specs.Prelude.{ℕ}
use Rattle.std.specs.formers.vec.Vec as vec
use Rattle.std.specs.declared.alloc.Global.{Global}
use Rattle.std.specs.contracts.alloc.Global as heap
use Rattle.std.specs.contracts.impls.GlobalAllocator.TheImpl.{ghosts}
use Rattle.ax_tree.specs.contracts.text.Text as text
use Rattle.ax_tree.specs.declared.members.Member.{Member}
use Rattle.ax_tree.specs.contracts.members.Member as M
use Rattle.ax_tree.specs.declared.members.Members.TheInside.{Inside}
use Rattle.ax_tree.specs.declared.members.Members.TheView.{view, invariant}
use Rattle.ax_tree.specs.contracts.members.Members as C
use Rattle.ax_tree.specs.contracts.members.Members.TheInside as I
use Rattle.ax_tree.specs.Rising.{is_rising}

-- a name beside one of g's values
abbrev member : Former {0} → Former {0}
member g =
    via (pair (const (List ℕ)) g) (λ X. Member (g.Of X)) (λ X m. (m.name, m.value))
    (λ X v. record { name = v.0; value = v.1 }) (λ X m. refl) (λ X v. refl)

-- the member, with h applied to its value
abbrev on_value : {X Y : Type 0} → (X → Y) → Member X → Member Y
on_value h m = record { name = m.name; value = h m.value }

abbrev pub the_former : Former {0} → Former {0}
the_former g = list (member g)

abbrev pub the_weighed : {g : Former {0}} → Weighed g → Weighed (the_former g)
the_weighed {g} w =
    w_list
    (w_via (w_pair (w_const (List ℕ)) w) (λ X. Member (g.Of X)) (λ X m. (m.name, m.value))
    (λ X v. record { name = v.0; value = v.1 }) (λ X m. refl) (λ X v. refl))

abbrev pub the_empty : List (Member ⊥)
the_empty = []

abbrev pub the_items : (X : Type 0) → List (Member X) → List X
the_items X members = map (λ m. m.value) members

pub the_items_listed : (X : Type 0) (members : List (Member X))
    → listed _ (children (the_former this) X members) ≡ the_items X members
the_items_listed X [] = refl
the_items_listed X (m ∷ ms) = ap (λ l. m.value ∷ l) (the_items_listed X ms)

-- the one field, a `Vec`
abbrev fields : Former {0}
fields =
    via (vec.the_former (member this) Global) Inside (λ X a. a.members)
    (λ X v. record { members = v }) (λ X a. refl) (λ X v. refl)

names_over : {X Y : Type 0} (h : X → Y) (members : List (Member X))
    → map (λ m. m.name) (map (on_value h) members) ≡ map (λ m. m.name) members
names_over h [] = refl
names_over h (m ∷ ms) = ap (λ l. m.name ∷ l) (names_over h ms)

rising_over : {X Y : Type 0} (h : X → Y) (members : List (Member X))
    → is_rising (map (λ m. m.name) (map (on_value h) members)) ≡ is_rising
    (map (λ m. m.name) members)
rising_over h members = ap is_rising (names_over h members)

module _ (R S : RattleType) (h : R.Denot → S.Denot) where
  member_places : Alike R S h → Alike (M.the_row R) (M.the_row S) (on_value h)
  member_places alike =
      struct_places (M.the_type R) (M.the_type S) (
        λ n. n,
        (h, tt),
      ) (on_value h) (λ d. refl) refl (stays text.the_row, (laid _ _ _ alike, tt))

  pub the_places : Alike R S h
      → Alike (C.the_row R) (C.the_row S) ((the_former this).map R.Denot S.Denot h)
  the_places alike =
      view_places fields (list (member this)) view (λ X Y k u. refl) (λ X u. refl) R.Denot S.Denot h
      (C.the_row R).coded (C.the_row S).coded
      (invariant R.Denot) (invariant S.Denot) (λ u p q. Bool-set _ _ p q)
      (λ u p q. Bool-set _ _ p q)
      (λ u e. rising_over h u.members.items ∙ e) (λ u e. sym (rising_over h u.members.items) ∙ e)
      (over (I.the_row R)) (over (I.the_row S))
      (struct_places (I.the_type R) (I.the_type S) (vec.mapped (on_value h), tt) _ (λ d. refl) refl (
        laid _ _ _
            (vec.the_places heap.the_row ghosts (M.the_row R) (M.the_row S) (on_value h)
            (member_places alike)),
        tt,
      ))

  pub the_codes_placed : Recodes R S h
      → Recodes (C.the_row R) (C.the_row S) ((the_former this).map R.Denot S.Denot h)
  the_codes_placed same members =
      sym
      (code_map _ _ (on_value h)
      (λ m i. gcons ((coded_list coded_ℕ).code m.name) (sym (same m.value) i)) members)
