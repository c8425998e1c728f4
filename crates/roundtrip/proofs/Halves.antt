-- The clauses of each half, asked in their order of headers and content headers that are laid out. Assumes nothing.
use Prim.Native.Nat.{ℕ}
use mathlib.Core.Path.{◌≡◌, sym, ◌∙◌}
use mathlib.Core.Bool.{true, false}
use mathlib.Core.List.{List}
use Rattle.format.specs.Bytes.{Bytes, all}
use Rattle.format.specs.Characters.{is_utf8, is_white, clear_ends}
use Rattle.format.specs.Message.{Entry, Header}
use Rattle.format.specs.Demand3.{not_type, clear_content}
use Rattle.format.specs.declared.Manner.{Manner}
use lib.ListN.{length}
use Rattle.std.specs.Prelude.{Some}
use Rattle.roundtrip.specs.Clauses.{FirstFails}
use Rattle.roundtrip.specs.Loss.{lost, none_lost, params_asked, name_asked, early, late}
use Rattle.roundtrip.proofs.Lossless.{clause_holds, clause_fails, each_holds, each_fails, headed, headless}

module _ (r : Manner) (xs : List Header) (ys : List Entry) where
  -- clauses 1 to 4
  module _ (body : Bytes) (headers : ℕ) (he : headers ≡ length xs) where
    pub no_header : headers ≡ 0 → lost 1 0 ≡ early r xs ys body none_lost
    unfolding early
    no_header z = sym (clause_fails (lost 1 0) _ (headless xs headers he z))

    module _ (some : headers ≡ 0 → ⊥) where
      pub a_param : (n : ℕ) → FirstFails (params_asked r) xs (Some n) → lost 2 n ≡ early r xs ys body none_lost
      unfolding early
      a_param n f = sym (clause_holds _ _ (headed xs headers he some) ∙ each_fails 2 (params_asked r) xs _ n f)

      module _ (plain : all (params_asked r) xs ≡ true) where
        pub no_text : is_utf8 body ≡ false → lost 3 0 ≡ early r xs ys body none_lost
        unfolding early
        no_text f = sym (clause_holds _ _ (headed xs headers he some) ∙ each_holds 2 (params_asked r) xs _ plain ∙ clause_fails _ _ f)

        module _ (good : is_utf8 body ≡ true) where
          pub a-type : (n : ℕ) → FirstFails not_type ys (Some n) → lost 4 n ≡ early r xs ys body none_lost
          unfolding early
          a-type n f =
              sym (clause_holds _ _ (headed xs headers he some)
              ∙ each_holds 2 (params_asked r) xs _ plain
              ∙ clause_holds _ _ good
              ∙ each_fails 4 not_type ys _ n f)

          pub early-none : all not_type ys ≡ true → none_lost ≡ early r xs ys body none_lost
          unfolding early
          early-none l =
              sym (clause_holds _ _ (headed xs headers he some)
              ∙ each_holds 2 (params_asked r) xs _ plain
              ∙ clause_holds _ _ good
              ∙ each_holds 4 not_type ys _ l)

  -- clauses 5 to 7
  module _ (type : Bytes) where
    pub a_name : (n : ℕ) → FirstFails (name_asked r) xs (Some n) → lost 5 n ≡ late r xs ys type
    unfolding late
    a_name n f = sym (each_fails 5 (name_asked r) xs _ n f)

    module _ (named : all (name_asked r) xs ≡ true) where
      pub a_content : (n : ℕ) → FirstFails clear_content ys (Some n) → lost 6 n ≡ late r xs ys type
      unfolding late
      a_content n f = sym (each_holds 5 (name_asked r) xs _ named ∙ each_fails 6 clear_content ys _ n f)

      module _ (plain : all clear_content ys ≡ true) where
        pub the_type : clear_ends is_white type ≡ false → lost 7 0 ≡ late r xs ys type
        unfolding late
        the_type f = sym (each_holds 5 (name_asked r) xs _ named ∙ each_holds 6 clear_content ys _ plain ∙ clause_fails _ _ f)

        pub late_none : clear_ends is_white type ≡ true → none_lost ≡ late r xs ys type
        unfolding late
        late_none t = sym (each_holds 5 (name_asked r) xs _ named ∙ each_holds 6 clear_content ys _ plain ∙ clause_holds _ _ t)
