-- What is kept of elements that come one after another, where each is kept or not by a fixed test.
use Rattle.std.specs.Prelude.{◌≡◌, List, [], ◌++◌, Option, refl}
use Rattle.std.specs.List.{filter_map}
use Rattle.std.proofs.Common.{sym, ap, ◌∙◌, append_assoc}
use Rattle.std.proofs.lemmas.List.{append-nil}
use Rattle.std.proofs.lemmas.List.Elements.{filter_map-append}

-- new has what is kept of the elements behind what old has, and what comes is kept as before
pub record Collected {X Y : Type 0} (keeps : X → Option Y) (old : List Y) (xs : List X)
    (keeps_then : X → Option Y) (new : List Y) : Type 0 where
  pub more : new ≡ old ++ filter_map keeps xs
  pub same : keeps_then ≡ keeps

pub none_collected : {X Y : Type 0} (keeps : X → Option Y) (old : List Y) → Collected keeps old [] keeps old
none_collected keeps old = record { more = sym (append-nil old); same = refl }

pub both_collected : {X Y : Type 0} (p q r : X → Option Y) (a b c : List Y) (xs ys : List X)
    → Collected p a xs q b → Collected q b ys r c → Collected p a (xs ++ ys) r c
both_collected p q r a b c xs ys h k = record {
  more =
      k.more ∙ ap (λ bs. bs ++ filter_map q ys) h.more
      ∙ append_assoc a (filter_map p xs) (filter_map q ys)
      ∙ ap (λ keeps. a ++ (filter_map p xs ++ filter_map keeps ys)) h.same
      ∙ sym (ap (λ zs. a ++ zs) (filter_map-append p xs ys));
  same = k.same ∙ h.same;
}
