-- A text that is written put after put: what is left of it, and where. Assumes nothing.
use mathlib.Core.Path.{◌≡◌, refl, sym, ap, ◌∙◌, subst}
use mathlib.Core.List.{List, [], ◌++◌}
use Prim.Native.Nat.{ℕ, ◌+◌, ◌≤◌}
use native.Mathlib.Omega.{arith}
use lib.ListN.{length, length-append}
use Rattle.decimal.specs.Bytes.{overwrite}
use Rattle.decimal.proofs.OverwriteLaws.{overwrite-nil, overwrite-length, overwrite-append}

-- a put of ys into xs from `at` on left `out` and answered r
abbrev pub Put : List ℕ → ℕ → List ℕ → List ℕ → ℕ → Type 0
Put xs at ys out r = (out ≡ overwrite xs at ys) × (r ≡ at + length ys)

-- the same of the bytes by another name, and of none
pub put_as : (xs : List ℕ) (at : ℕ) {ys zs out : List ℕ} {r : ℕ} → ys ≡ zs → Put xs at ys out r → Put xs at zs out r
put_as xs at {out = out} {r = r} e p = subst (λ (l : List ℕ). Put xs at l out r) e p

pub put-none : (xs : List ℕ) (at : ℕ) {zs : List ℕ} → [] ≡ zs → Put xs at zs xs at
put-none xs at e = put_as xs at e (sym (overwrite-nil xs at), omega arith)

-- `text` is to be written into xs from `at` on; what is left is to write `rest` into `out` from `place` on
pub record Rest (xs : List ℕ) (at : ℕ) (text out : List ℕ) (place : ℕ) (rest : List ℕ) : Type 0 where
  pub fits : at + length text ≤ length xs
  pub size : length out ≡ length xs
  pub ends : place + length rest ≡ at + length text
  pub same : overwrite out place rest ≡ overwrite xs at text

-- at the beginning all is left
pub rest_all : (xs : List ℕ) (at : ℕ) (text : List ℕ) → at + length text ≤ length xs → Rest xs at text xs at text
rest_all xs at text h = record { fits = h; size = refl; ends = refl; same = refl }

module _ {xs : List ℕ} {at : ℕ} {text out : List ℕ} {place : ℕ} where
  -- the rest by another name
  pub rest-as : {rest rest' : List ℕ} → rest ≡ rest' → Rest xs at text out place rest → Rest xs at text out place rest'
  rest-as e r = subst (Rest xs at text out place) e r

  -- at the end all is written
  pub rest-none : Rest xs at text out place [] → Put xs at text out place
  rest-none r = (sym (overwrite-nil out place) ∙ r.same, omega (arith, r.ends))

  -- there is room for the rest, and once it is put, all is written
  module _ {rest : List ℕ} (r : Rest xs at text out place rest) where
    pub rest-room-all : place + length rest ≤ length out
    rest-room-all = omega (arith, r.fits, r.size, r.ends)

    pub rest-put-all : {out' : List ℕ} {place' : ℕ} → Put out place rest out' place' → Put xs at text out' place'
    rest-put-all p = (p.0 ∙ r.same, p.1 ∙ r.ends)

  module _ (ys rest : List ℕ) (r : Rest xs at text out place (ys ++ rest)) where
    -- there is room for the first part of the rest
    pub rest-room : place + length ys ≤ length out
    rest-room = omega (arith, r.fits, r.size, r.ends, length-append ys rest)

    -- and once it is put, the other part is left
    pub rest_put : {out' : List ℕ} {place' : ℕ} → Put out place ys out' place' → Rest xs at text out' place' rest
    rest_put {out'} {place'} p =
        let room : place + length (ys ++ rest) ≤ length out = omega (arith, r.fits, r.size, r.ends) in record {
          fits = r.fits;
          size = ap length p.0 ∙ overwrite-length out place ys rest-room ∙ r.size;
          ends = omega (arith, p.1, r.ends, length-append ys rest);
          same =
              ap (λ (o : List ℕ). overwrite o place' rest) p.0
              ∙ ap (λ (k : ℕ). overwrite (overwrite out place ys) k rest) p.1
              ∙ overwrite-append out place ys rest room
              ∙ r.same;
        }
