-- The code of contents, by which proofs tell them apart: that of the tuple of their fields. A type that
-- contracts see as contents cites it; no clause does.
use Rattle.std.specs.Prelude.{ℕ, List, Option, refl}
use Rattle.std.specs.Coded.{Coded, code_by, coded×, coded_list, coded_option, coded_ℕ}
use Rattle.std.specs.FinMap as map
use Rattle.ax_pages.specs.Contents.{Numbered, TermPage, Contents}

abbrev pub numbered_code : Coded Numbered
numbered_code = map.code coded_ℕ (coded_list coded_ℕ)

abbrev pub term_page_code : Coded TermPage
term_page_code = code_by (Option (List ℕ) × List (List ℕ)) (coded× (coded_option (coded_list coded_ℕ)) (coded_list (coded_list coded_ℕ)))
    (λ page. (page.base, page.deltas)) (λ fields. record { base = fields.0; deltas = fields.1 }) (λ _. refl)

abbrev pub contents_code : Coded Contents
contents_code = code_by (Option (List ℕ) × (Numbered × (Numbered × List TermPage)))
    (coded× (coded_option (coded_list coded_ℕ)) (coded× numbered_code (coded× numbered_code (coded_list term_page_code))))
    (λ contents. (contents.meta, (contents.policies, (contents.documents, contents.terms))))
    (λ fields. record { meta = fields.0; policies = fields.1.0; documents = fields.1.1.0; terms = fields.1.1.1 }) (λ _. refl)
