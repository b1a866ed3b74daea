-- Worked rows: words that are accepted, and words that are not.
use Rattle.std.proofs.Common.{◌≡◌, true, false, [], ◌∷◌, map, Some, None, refl}
use Rattle.std.specs.Prelude.{codes}
use Rattle.input_defs.specs.Words.{made_of, with_word, request_from, request}
use Rattle.std.specs.Prelude.{is_none}
use Rattle.std.specs.List.{list_all}
use Rattle.input_defs.specs.declared.Kind.TheVariants.{Tri, Quad, Tet, Hex}
use Rattle.input_defs.specs.Words.{File, Made}

refused_words : list_all (λ words. is_none (request words))
    ([]
    ∷ (codes "--make" ∷ codes "hex:63" ∷ [])
    ∷ (codes "--plan" ∷ codes "p" ∷ codes "--plan" ∷ codes "q" ∷ codes "T1" ∷ [])
    ∷ (codes "--make" ∷ codes "tri:1" ∷ codes "T1" ∷ [])
    ∷ (codes "--make" ∷ codes "tri:01" ∷ [])
    ∷ (codes "--" ∷ [])
    ∷ (codes "--" ∷ codes "T1" ∷ [])
    ∷ (codes "-h" ∷ [])
    ∷ (codes "--help" ∷ [])
    ∷ (codes "T1" ∷ codes "T2" ∷ [])
    ∷ (codes "--summary" ∷ codes "--summary" ∷ codes "T1" ∷ [])
    ∷ (codes "--plan" ∷ [])
    ∷ (codes "T1" ∷ codes "--plan" ∷ [])
    ∷ (codes "--plan" ∷ codes "-p" ∷ codes "T1" ∷ [])
    ∷ (codes "--plan=" ∷ codes "T1" ∷ [])
    ∷ (codes "--plan" ∷ codes "" ∷ codes "T1" ∷ [])
    ∷ (codes "" ∷ [])
    ∷ (codes "--make" ∷ codes "tri:0" ∷ [])
    ∷ (codes "--make" ∷ codes "tri:354" ∷ [])
    ∷ (codes "--make=quad:501" ∷ [])
    ∷ (codes "--make" ∷ codes "tet:35" ∷ [])
    ∷ (codes "--make" ∷ codes "tri" ∷ [])
    ∷ (codes "--make" ∷ codes "tri:" ∷ [])
    ∷ (codes "--make" ∷ codes "tri:1:2" ∷ [])
    ∷ (codes "--make" ∷ codes "tri:+1" ∷ [])
    ∷ (codes "--make" ∷ codes "oct:1" ∷ [])
    ∷ (codes "--make" ∷ [])
    ∷ (codes "--mak" ∷ codes "tri:1" ∷ [])
    ∷ (codes "--plan" ∷ codes "p" ∷ [])
    ∷ (codes "--make=tri:1" ∷ codes "--make=tri:1" ∷ [])
    ∷ (codes "--summary=1" ∷ codes "T1" ∷ [])
    ∷ (codes "--plan" ∷ codes "--summary" ∷ codes "T1" ∷ [])
    ∷ []) ≡ true
unfolding made_of with_word request_from request
refused_words = refl

accepted_words : map request
    ((codes "T1" ∷ [])
    ∷ (codes "--plan" ∷ codes "p" ∷ codes "T1" ∷ [])
    ∷ (codes "T1" ∷ codes "--plan=a=b" ∷ codes "--summary" ∷ [])
    ∷ (codes "--summary" ∷ codes "--make" ∷ codes "hex:62" ∷ codes "--plan" ∷ codes "p" ∷ [])
    ∷ (codes "--make=tri:353" ∷ [])
    ∷ (codes "--make" ∷ codes "quad:500" ∷ [])
    ∷ (codes "--make=tet:34" ∷ [])
    ∷ (codes "a b" ∷ [])
    ∷ [])
    ≡ Some (record { plan = None; source = File (codes "T1"); summary = false })
    ∷ Some (record { plan = Some (codes "p"); source = File (codes "T1"); summary = false })
    ∷ Some (record { plan = Some (codes "a=b"); source = File (codes "T1"); summary = true })
    ∷ Some (record { plan = Some (codes "p"); source = Made Hex 62; summary = true })
    ∷ Some (record { plan = None; source = Made Tri 353; summary = false })
    ∷ Some (record { plan = None; source = Made Quad 500; summary = false })
    ∷ Some (record { plan = None; source = Made Tet 34; summary = false })
    ∷ Some (record { plan = None; source = File (codes "a b"); summary = false })
    ∷ []
unfolding made_of with_word request_from request
accepted_words = refl
