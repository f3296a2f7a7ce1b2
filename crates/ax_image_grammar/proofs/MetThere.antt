-- All that is held stands at a place of its own, and is met there where it is outside its grammar.
use Rattle.std.proofs.Common.{◌≡◌, ℕ, ◌↔◌, Bool, true, false, List, [], ◌∷◌, length, slice_get}
use Rattle.std.proofs.Common.{◌+◌, get_or, arith, inl, inr, refl, sym, ap, subst, ◌∙◌}
use Rattle.std.specs.Prelude.{Some}
use Rattle.std.specs.List.{Contains}
use Rattle.std.specs.FinMap as map
use Rattle.std.proofs.lemmas.Option.{slice_get_within, slice_get-get_or}
use Rattle.ax_disk.specs.declared.extent.Extent.{Extent}
use Rattle.ax_disk.specs.model.Image.{Image}
use Rattle.ax_pages.specs.Contents.{no_term_page, term_page, term_parts}
use Rattle.ax_area.specs.Changes.{Change}
use Rattle.ax_area.specs.Contents.{Contents, Stored, no_contents}
use Rattle.ax_area.specs.Items.{item_parts}
use Rattle.ax_area.specs.Places.{Place, no_places, places_from, places_after}
use Rattle.ax_area.specs.Told.{Told, TellOn, Lead}
use Rattle.ax_area.proofs.OneTelling.{same_some}
use Rattle.ax_area.proofs.OneOutcome.{one_told}
use Rattle.ax_image_grammar.specs.Payloads.{IsReadable, IsDocumentText, IsPolicyText}
use Rattle.ax_image_grammar.specs.Grammar.{IsGrammatical, IsUnreadable, IsOutside}
use Rattle.ax_image_grammar.specs.Met.{BeginAt, IsDocumentMet, IsPolicyMet, IsPartMet, IsMet}
use Rattle.ax_image_grammar.specs.Met.{is_base_at, IsPayload, IsPartAt, HasPart, HasPartAt}
use Rattle.ax_image_grammar.specs.Met.{IsMetAt, IsTakenMetAt, HasNoTable}
use Rattle.ax_image_grammar.proofs.Matched.{right_of, left_of, zip_long, zip_left, numbered_long}
use Rattle.ax_image_grammar.proofs.Matched.{numbered_get}
use Rattle.ax_image_grammar.proofs.FromTold.{IsOneTold, IsAlone, is_alone, page_parts, part_at}
use Rattle.ax_image_grammar.proofs.FromTold.{parts_long, IsSaid, IsDocumentFrom, IsPolicyFrom}
use Rattle.ax_image_grammar.proofs.FromTold.{IsPartFrom, ArePartsFrom, AreFrom, held_from}
use Rattle.ax_image_grammar.proofs.Once.{told_once, tells_rise}
use Rattle.ax_image_grammar.proofs.NotBoth.{not_in_and_outside}

-- the offset of the first
abbrev pub front_at : List Place → ℕ
front_at [] = 0
front_at (front ∷ pieces) = front.at

module _ (version : ℕ) (frames : List (List ℕ)) (told : List Told) (contents : Contents)
    (tell : TellOn version frames 0 told) (lead : Lead told no_contents contents) where
  from : AreFrom (IsOneTold version told) contents (places_after told no_places)
  from = held_from version frames told contents tell lead

  -- ---- documents

  document_from : (number : ℕ) (document : Stored)
      → map.get contents.documents number ≡ Some document
      → (at : List Place) × (map.get (places_after told no_places).documents number ≡ Some at)
      × IsDocumentFrom (IsOneTold version told) number document at
  document_from number document held =
      right_of (IsDocumentFrom (IsOneTold version told) number) (map.get contents.documents number)
      (map.get (places_after told no_places).documents number) (from.documents number) document held

  pub documents_met : (newest number : ℕ) (document : Stored)
      → map.get contents.documents number ≡ Some document
      → (front : Place) × (pieces : List Place)
      × (map.get (places_after told no_places).documents number ≡ Some (front ∷ pieces))
      × ((at : ℕ) → IsDocumentMet newest number told contents at
      ↔ (at ≡ front.at) × (IsDocumentText newest document.text → ⊥))
  documents_met newest number document held =
      let is = document_from number document held in
      let one : Told = is.2.one in
      let at : List Place = places_from one.at (item_parts one.item) in
      let stand : map.get (places_after told no_places).documents number ≡ Some at =
      is.1 ∙ ap Some is.2.stand in (
        _,
        _,
        stand,
        λ place. (
          λ met. (
            sym met.begin.place
                ∙ ap front_at (same_some (met.begin.front ∷ met.begin.pieces) at
                (sym met.begin.stand ∙ stand)),
            λ good. met.bad (subst (λ (d : Stored). IsDocumentText newest d.text)
                (same_some document met.document (sym held ∙ met.held)) good),
          ),
          λ both. record {
            document = document;
            held = held;
            begin = record { front = _; pieces = _; stand = stand; place = sym both.0 };
            bad = both.1;
          },
        ),
      )

  pub only_documents : (number : ℕ) (at : List Place)
      → map.get (places_after told no_places).documents number ≡ Some at
      → (document : Stored) × (map.get contents.documents number ≡ Some document)
  only_documents number at there =
      let is = left_of (IsDocumentFrom (IsOneTold version told) number)
      (map.get contents.documents number) (map.get (places_after told no_places).documents number)
      (from.documents number) at there in
      (is.0, is.1)

  -- ---- policies

  policy_from : (number : ℕ) (text : List ℕ) → map.get contents.policies number ≡ Some text
      → (at : List Place) × (map.get (places_after told no_places).policies number ≡ Some at)
      × IsPolicyFrom (IsOneTold version told) number text at
  policy_from number text held =
      right_of (IsPolicyFrom (IsOneTold version told) number) (map.get contents.policies number)
      (map.get (places_after told no_places).policies number) (from.policies number) text held

  pub policies_met : (number : ℕ) (text : List ℕ) → map.get contents.policies number ≡ Some text
      → (front : Place)
      × (map.get (places_after told no_places).policies number ≡ Some (front ∷ []))
      × ((at : ℕ) → IsPolicyMet number told contents at
      ↔ (at ≡ front.at) × (IsPolicyText text → ⊥))
  policies_met number text held =
      let is = policy_from number text held in
      let one : Told = is.2.one in
      let none : one.item.pieces ≡ [] =
      subst (λ c. IsAlone c one.item) is.2.said (is_alone version one is.2.so.is_told) in
      let stand : map.get (places_after told no_places).policies number
      ≡ Some (places_from one.at (one.item.first ∷ [])) =
      is.1 ∙ ap Some is.2.stand
      ∙ ap (λ pieces. Some (places_from one.at (one.item.first ∷ pieces))) none in (
        _,
        stand,
        λ place. (
          λ met. (
            sym met.begin.place
                ∙ ap front_at (same_some (met.begin.front ∷ met.begin.pieces)
                (places_from one.at (one.item.first ∷ [])) (sym met.begin.stand ∙ stand)),
            λ good. met.bad (subst IsPolicyText
                (same_some text met.text (sym held ∙ met.held)) good),
          ),
          λ both. record {
            text = text;
            held = held;
            begin = record { front = _; pieces = []; stand = stand; place = sym both.0 };
            bad = both.1;
          },
        ),
      )

  pub only_policies : (number : ℕ) (at : List Place)
      → map.get (places_after told no_places).policies number ≡ Some at
      → (text : List ℕ) × (map.get contents.policies number ≡ Some text)
  only_policies number at there =
      let is = left_of (IsPolicyFrom (IsOneTold version told) number)
      (map.get contents.policies number) (map.get (places_after told no_places).policies number)
      (from.policies number) at there in
      (is.0, is.1)

  -- ---- term pages

  pub as_many_pages : length (places_after told no_places).terms ≡ length contents.terms
  as_many_pages = numbered_long (ArePartsFrom (IsOneTold version told)) 0
      (places_after told no_places).terms contents.terms from.terms

  parts_from : (page : ℕ) → ArePartsFrom (IsOneTold version told) page
      (get_or (places_after told no_places).terms page []) (term_page page contents.terms)
  parts_from page =
      let number : 0 + page ≡ page = omega arith in
      subst (λ n. ArePartsFrom (IsOneTold version told) n
      (get_or (places_after told no_places).terms page []) (term_page page contents.terms)) number
      (numbered_get (ArePartsFrom (IsOneTold version told)) 0 (places_after told no_places).terms
      contents.terms page [] no_term_page from.terms tt)

  pub as_many_parts : (page : ℕ) → length (get_or (places_after told no_places).terms page [])
      ≡ length (term_parts (term_page page contents.terms))
  as_many_parts page =
      zip_long (IsPartFrom (IsOneTold version told) page)
      (get_or (places_after told no_places).terms page [])
      (page_parts (term_page page contents.terms)) (parts_from page)
      ∙ parts_long (term_page page contents.terms)

  part_from : (page position : ℕ) (payload : List ℕ)
      → slice_get (term_parts (term_page page contents.terms)) position ≡ Some payload
      → (place : Place)
      × (slice_get (get_or (places_after told no_places).terms page []) position ≡ Some place)
      × IsPartFrom (IsOneTold version told) page place (record {
        base = is_base_at (term_page page contents.terms) position;
        payload = payload;
      })
  part_from page position payload held =
      zip_left (IsPartFrom (IsOneTold version told) page)
      (get_or (places_after told no_places).terms page [])
      (page_parts (term_page page contents.terms)) position
      (record {
        base = is_base_at (term_page page contents.terms) position;
        payload = payload;
      }) (parts_from page) (part_at (term_page page contents.terms) position payload held)

  pub parts_met : (page position : ℕ) (payload : List ℕ)
      → slice_get (term_parts (term_page page contents.terms)) position ≡ Some payload
      → (place : Place)
      × (slice_get (get_or (places_after told no_places).terms page []) position ≡ Some place)
      × ((at : ℕ) → IsPartMet page position told contents at ↔ (at ≡ place.at)
      × (IsPayload (is_base_at (term_page page contents.terms) position) payload → ⊥))
  parts_met page position payload held =
      let is = part_from page position payload held in
      let base : Bool = is_base_at (term_page page contents.terms) position in (
        is.0,
        is.1,
        λ at. (
          λ met. (
            sym met.there.place_is ∙ ap (λ (p : Place). p.at)
                (same_some met.there.place is.0 (sym met.there.stands ∙ is.1)),
            λ good. met.bad (subst (IsPayload base)
                (same_some payload met.payload (sym held ∙ met.held)) good),
          ),
          λ both. record {
            payload = payload;
            held = held;
            there = record { place = is.0; stands = is.1; place_is = sym both.0 };
            bad = both.1;
          },
        ),
      )

  -- ---- what was told there

  begins_there : (one : Told) (places : List Place) (at : ℕ)
      → places ≡ places_from one.at (item_parts one.item)
      → (there : BeginAt (Some places) at) → one.at ≡ at
  begins_there one places at stand there =
      sym (ap front_at (same_some (there.front ∷ there.pieces)
      (places_from one.at (item_parts one.item)) (sym there.stand ∙ ap Some stand)))
      ∙ there.place

  part_there : (page position at : ℕ) (payload : List ℕ)
      → (held : slice_get (term_parts (term_page page contents.terms)) position ≡ Some payload)
      → IsPartAt page position told at → (part_from page position payload held).2.one.at ≡ at
  part_there page position at payload held there =
      let is = part_from page position payload held in
      sym is.2.place_is
      ∙ ap (λ (p : Place). p.at) (same_some is.0 there.place (sym is.1 ∙ there.stands))
      ∙ there.place_is

  -- the part that stands at a place was told there
  pub record IsPartFromPlace (page position at : ℕ) : Type 0 where
    pub payload : List ℕ
    pub held : slice_get (term_parts (term_page page contents.terms)) position ≡ Some payload
    pub base : Bool
    pub base_is : base ≡ is_base_at (term_page page contents.terms) position
    pub one : Told
    pub so : IsOneTold version told one
    pub place : one.at ≡ at
    pub said : IsSaid page base payload one.change

  pub part_from_place : (page position at : ℕ) → IsPartAt page position told at
      → IsPartFromPlace page position at
  part_from_place page position at there =
      let parts : List (List ℕ) = term_parts (term_page page contents.terms) in
      let payload : List ℕ = get_or parts position [] in
      let within = slice_get_within (get_or (places_after told no_places).terms page []) position
      there.place there.stands in
      let held : slice_get parts position ≡ Some payload = slice_get-get_or parts position []
      (omega (arith, within, as_many_parts page)) in
      let is = part_from page position payload held in
      record {
        payload = payload;
        held = held;
        base = is_base_at (term_page page contents.terms) position;
        base_is = refl;
        one = is.2.one;
        so = is.2.so;
        place = part_there page position at payload held there;
        said = is.2.said;
      }

  module _ (newest : ℕ) where
    -- at this offset something was told that cannot be read
    record IsToldThere (at : ℕ) : Type 0 where
      one : Told
      so : IsOneTold version told one
      place : one.at ≡ at
      bad : IsReadable newest one.change → ⊥

    read_part : (page : ℕ) (base : Bool) (payload : List ℕ) (c : Change)
        → IsSaid page base payload c → IsReadable newest c → IsPayload base payload
    read_part page true payload c said good = subst (IsReadable newest) said good
    read_part page false payload c said good = subst (IsReadable newest) said good

    told_there : (at : ℕ) → IsMet newest told contents at → IsToldThere at
    told_there at (inl (number, met)) =
        let is = document_from number met.document met.held in
        record {
          one = is.2.one;
          so = is.2.so;
          place = begins_there is.2.one is.0 at is.2.stand
              (subst (λ places. BeginAt places at) is.1 met.begin);
          bad = λ good. met.bad (subst (λ (d : Stored). IsDocumentText newest d.text)
              (sym is.2.is) (subst (IsReadable newest) is.2.said good));
        }
    told_there at (inr (inl (number, met))) =
        let is = policy_from number met.text met.held in
        record {
          one = is.2.one;
          so = is.2.so;
          place = begins_there is.2.one is.0 at is.2.stand
              (subst (λ places. BeginAt places at) is.1 met.begin);
          bad = λ good. met.bad (subst (IsReadable newest) is.2.said good);
        }
    told_there at (inr (inr (page, position, met))) =
        let is = part_from page position met.payload met.held in
        record {
          one = is.2.one;
          so = is.2.so;
          place = part_there page position at met.payload met.held met.there;
          bad = λ good. met.bad (read_part page
              (is_base_at (term_page page contents.terms) position) met.payload
              is.2.one.change is.2.said good);
        }

    -- ---- and what was told there is met, where it counts

    part_read : (page : ℕ) (base : Bool) (payload : List ℕ) (c : Change)
        → IsSaid page base payload c → IsPayload base payload → IsReadable newest c
    part_read page true payload c said good = subst (IsReadable newest) (sym said) good
    part_read page false payload c said good = subst (IsReadable newest) (sym said) good

    module _ (one : Told) (is_in : Contains told one) (bad : IsReadable newest one.change → ⊥)
        (at : ℕ) (place : one.at ≡ at) where
      -- no other was told there
      no_other : (other : Told) → Contains told other → other.at ≡ at → IsReadable newest other.change
          → ⊥
      no_other other too there good =
          let same : other ≡ one = told_once 0 told other one
          (tells_rise version frames 0 told tell) too is_in (there ∙ sym place) in
          bad (subst (λ (t : Told). IsReadable newest t.change) same good)

      there_met : HasPart told at → IsMet newest told contents at
      there_met (inl (number, begin)) =
          let is = left_of (IsDocumentFrom (IsOneTold version told) number)
          (map.get contents.documents number)
          (map.get (places_after told no_places).documents number) (from.documents number)
          (begin.front ∷ begin.pieces) begin.stand in
          inl (
            number,
            record {
              document = is.0;
              held = is.1;
              begin = begin;
              bad = λ good. no_other is.2.one is.2.so.is_in
                  (sym (ap front_at is.2.stand) ∙ begin.place)
                  (subst (IsReadable newest) (sym is.2.said)
                  (subst (λ (d : Stored). IsDocumentText newest d.text) is.2.is good));
            },
          )
      there_met (inr (inl (number, begin))) =
          let is = left_of (IsPolicyFrom (IsOneTold version told) number)
          (map.get contents.policies number)
          (map.get (places_after told no_places).policies number) (from.policies number)
          (begin.front ∷ begin.pieces) begin.stand in
          inr (inl (
            number,
            record {
              text = is.0;
              held = is.1;
              begin = begin;
              bad = λ good. no_other is.2.one is.2.so.is_in
                  (sym (ap front_at is.2.stand) ∙ begin.place)
                  (subst (IsReadable newest) (sym is.2.said) good);
            },
          ))
      there_met (inr (inr (page, position, there))) =
          let is = part_from_place page position at there in
          inr (inr (
            page,
            position,
            record {
              payload = is.payload;
              held = is.held;
              there = there;
              bad = λ good. no_other is.one is.so.is_in is.place
                  (part_read page is.base is.payload is.one.change is.said
                  (subst (λ base. IsPayload base is.payload) (sym is.base_is) good));
            },
          ))

    pub met_begins : (at : ℕ) → IsMet newest told contents at → HasPart told at
    met_begins at (inl (number, met)) = inl (number, met.begin)
    met_begins at (inr (inl (number, met))) = inr (inl (number, met.begin))
    met_begins at (inr (inr (page, position, met))) = inr (inr (page, position, met.there))

-- ---- in an image

pub met_unreadable : (newest : ℕ) (area : Extent) (at : ℕ) (image : Image)
    → IsMetAt newest area at image → IsUnreadable newest area at image
met_unreadable newest area at image met =
    let there = told_there met.version met.live.frames met.told met.contents met.live.tell
    met.live.lead newest at met.met in
    record {
      version = met.version;
      told = met.told;
      contents = met.contents;
      live = met.live;
      area_is = met.area_is;
      one = there.one;
      is_told = there.so.is_in;
      place = there.place;
      bad = there.bad;
    }

pub met_has_part : (newest : ℕ) (area : Extent) (at : ℕ) (image : Image)
    → IsMetAt newest area at image → HasPartAt newest area at image
met_has_part newest area at image met = record {
  version = met.version;
  told = met.told;
  contents = met.contents;
  live = met.live;
  area_is = met.area_is;
  has = met_begins met.version met.live.frames met.told met.contents met.live.tell met.live.lead
      newest at met.met;
}

-- the image tells one thing
part_of_told : (newest : ℕ) (area : Extent) (at : ℕ) (image : Image)
    (bad : IsUnreadable newest area at image) → HasPartAt newest area at image
    → HasPart bad.told at
part_of_told newest area at image bad part =
    subst (λ told. HasPart told at) (one_told newest image part.version bad.version part.told
    bad.told part.contents bad.contents (inr part.live) (inr bad.live)) part.has

pub unreadable_met : (newest : ℕ) (area : Extent) (at : ℕ) (image : Image)
    → IsUnreadable newest area at image → HasPartAt newest area at image
    → IsMetAt newest area at image
unreadable_met newest area at image bad part = record {
  version = bad.version;
  told = bad.told;
  contents = bad.contents;
  live = bad.live;
  area_is = bad.area_is;
  met = there_met bad.version bad.live.frames bad.told bad.contents bad.live.tell bad.live.lead
      newest bad.one bad.is_told bad.bad at bad.place
      (part_of_told newest area at image bad part);
}

pub met_exactly : (newest : ℕ) (area : Extent) (at : ℕ) (image : Image)
    → IsMetAt newest area at image
    ↔ IsUnreadable newest area at image × HasPartAt newest area at image
met_exactly newest area at image = (
  λ met. (met_unreadable newest area at image met, met_has_part newest area at image met),
  λ both. unreadable_met newest area at image both.0 both.1,
)

pub met_outside : (newest : ℕ) (area : Extent) (at : ℕ) (image : Image)
    → IsMetAt newest area at image → IsOutside newest area at image
met_outside newest area at image met = inr (inl (met_unreadable newest area at image met))

pub taken_met : (newest : ℕ) (area : Extent) (at : ℕ) (image : Image)
    → IsTakenMetAt newest area at image → IsMetAt newest area at image
taken_met newest area at image taken = record {
  version = taken.version;
  told = taken.told;
  contents = taken.contents;
  live = taken.live;
  area_is = taken.area_is;
  met = inr (inl (taken.number, taken.met.met));
}

pub no_table_outside : (newest : ℕ) (area : Extent) (at : ℕ) (image : Image)
    → HasNoTable newest area at image → IsOutside newest area at image
no_table_outside newest area at image (inl taken) =
    met_outside newest area at image (taken_met newest area at image taken)
no_table_outside newest area at image (inr twins) = inr (inr twins)

pub nothing_met : (newest version : ℕ) (told : List Told) (contents : Contents) (area : Extent)
    (at : ℕ) (image : Image) → IsGrammatical newest version told contents image
    → IsMetAt newest area at image → ⊥
nothing_met newest version told contents area at image is met =
    not_in_and_outside newest version told contents area at image is
    (met_outside newest area at image met)

pub has_table : (newest version : ℕ) (told : List Told) (contents : Contents) (area : Extent)
    (at : ℕ) (image : Image) → IsGrammatical newest version told contents image
    → HasNoTable newest area at image → ⊥
has_table newest version told contents area at image is none =
    not_in_and_outside newest version told contents area at image is
    (no_table_outside newest area at image none)
