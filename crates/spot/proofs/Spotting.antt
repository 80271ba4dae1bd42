-- Writing the spot of a tree: what is answered and what is left. Assumes nothing.
use Rattle.std.proofs.Common.{◌≡◌, ℕ, ◌+◌, ◌-◌, ◌*◌, ◌<◌, ◌≤◌, true, false, List, [], ◌∷◌, ◌++◌, length, take, drop, is_ok, Ok, Err, Result, sym, refl, ap, ◌∙◌, mul-le-mul, arith, length-append, length-take-le}
use borrow.Rule.Slice.PartMut.{put_mid}
use Rattle.std.proofs.lemmas.Bool.{le-leb, lt-leb}
use Rattle.grid.specs.declared.cell.Cell.{Cell}
use Rattle.grid.specs.declared.grid.Grid.{Grid}
use Rattle.bits.specs.Packing.{Narrow}
use Rattle.bits.proofs.Packings.{length-packed}
use Rattle.cellcode.specs.Codes.{CodeLaws}
use Rattle.numlist.specs.Calls.{narrow, write_answer}
use Rattle.numlist.specs.Lists.{Sound, most}
use Rattle.numlist.specs.declared.refusal.WriteRefused.{WriteRefused}
use Rattle.numlist.proofs.Aboves.{narrow-true}
use Rattle.spot.specs.Codes.{codes, root}
use Rattle.spot.specs.Packs.{spot_answer}
use Rattle.spot.specs.Spots.{Making, Wide, spot, trailer, trailer_bytes, code_bytes, edition}
use Rattle.spot.specs.declared.refusal.PackRefused.{PackRefused}
use Rattle.spot.specs.declared.trailer.Trailer.{Trailer}
use Rattle.spot.proofs.CodeLists.{AllOn, fits, root-on, narrower}
use Rattle.spot.proofs.Sheets.{side_fine}
use Rattle.spot.proofs.Writing.{written-length, refused-length, behind_list, spot-written}

-- what is known where a tree is packed: the laws of the make, and that the cells are few, and all on the grid
pub record Packable (M : Making) (grid : Grid) (tree : List Cell) : Type 0 where
  pub wide : Wide M
  pub laws : CodeLaws M.code
  pub sound : Sound M.list
  pub few : length tree ≤ most
  pub placed : AllOn grid.side tree

module _ (M : Making) (grid : Grid) (tree : List Cell) (p : Packable M grid tree) where
  abbrev side : ℕ
  side = grid.side

  abbrev cs : List ℕ
  cs = codes (M.code side) tree

  cs_fit : (length cs ≡ length tree) × Narrow 42 cs
  cs_fit = fits M.code p.laws side (side_fine grid) (length tree) (root tree) tree (omega arith) (root-on side tree grid.low p.placed) p.placed

  cs_small : narrow M.list.reach cs ≡ true
  cs_small = narrower 42 M.list.reach cs p.wide.0 cs_fit.1

  cs_few : length cs ≤ most
  cs_few = omega (arith, cs_fit.0, p.few)

  trailer_long : (t : Trailer) → length (trailer_bytes t) ≡ 24
  trailer_long t = length-packed 32 (t.length ∷ t.hits ∷ t.root.x ∷ t.root.y ∷ t.side ∷ (t.make + 65536 * edition) ∷ [])

  pub spot_long : length (spot M side tree) ≡ length (code_bytes M side tree) + 24
  spot_long = length-append (code_bytes M side tree) (trailer_bytes (trailer M side tree)) ∙ omega (arith, trailer_long (trailer M side tree))

  -- a spot of n hits has at most (n + 16) × reach bytes and the trailer
  pub spot_bound : length (spot M side tree) ≤ (length tree + 16) * M.list.reach + 24
  spot_bound =
      let bound = p.sound.small cs (narrow-true M.list.reach cs cs_small) cs_few in
      let same : (length cs + 16) * M.list.reach ≡ (length tree + 16) * M.list.reach = ap (λ n. (n + 16) * M.list.reach) cs_fit.0 in
      omega (arith, bound, same, spot_long)

  -- so it is accepted where there are as many bytes
  pub spot_fits : (bytes : ℕ) → (length tree + 16) * M.list.reach + 24 ≤ bytes → is_ok (spot_answer (spot M side tree) bytes) ≡ true
  spot_fits bytes enough = rw (le-leb (length (spot M side tree)) bytes (omega (arith, spot_bound))) refl

  -- the list has less than 2^32 bytes
  pub list_short : length (code_bytes M side tree) < 4294967296
  list_short =
      let bound = p.sound.small cs (narrow-true M.list.reach cs cs_small) cs_few in
      let few-enough : length cs + 16 ≤ 1048592 = omega (arith, cs_few) in
      let most_bytes : (length cs + 16) * M.list.reach ≤ 1048592 * 64 = mul-le-mul few-enough p.wide.1 in
      omega (arith, bound, most_bytes)

  pub no_room : (bytes : ℕ) → bytes < length (code_bytes M side tree) + 24 → Err PackRefused.NoRoom ≡ spot_answer (spot M side tree) bytes
  no_room bytes short = sym (rw (lt-leb (length (spot M side tree)) bytes (omega (arith, spot_long))) refl)

  pub has_room : (bytes n : ℕ) → n ≡ length (code_bytes M side tree) → n + 24 ≤ bytes → Ok (n + 24) ≡ spot_answer (spot M side tree) bytes
  has_room bytes n is fits_in =
      let long : n + 24 ≡ length (spot M side tree) = omega (arith, spot_long, is) in
      ap Ok long ∙ sym (rw (le-leb (length (spot M side tree)) bytes (omega (arith, long))) refl)

  -- the list of the codes is written, or is not, into all bytes but the last 24
  module _ (out ns : List ℕ) (is : ns ≡ cs) (front : ℕ) (behind : front + 24 ≡ length out) where
    front_long : length (take front out) ≡ front
    front_long = length-take-le front out (omega arith)

    answer_is : (r : Result ℕ WriteRefused) → r ≡ write_answer M.list ns (length (take front out)) → r ≡ write_answer M.list cs front
    answer_is r e = e ∙ (λ i. write_answer M.list (is i) (front_long i))

    pub list_written : (n : ℕ) → Ok n ≡ write_answer M.list ns (length (take front out)) → (n ≡ length (code_bytes M side tree)) × (n + 24 ≤ length out)
    list_written n e =
        let told = written-length M.list cs front cs_few cs_small n (answer_is (Ok n) e) in
        (told.0, omega (arith, told.0, told.1))

    pub list_refused : (r : Result ℕ WriteRefused) → false ≡ is_ok r → r ≡ write_answer M.list ns (length (take front out)) → length out < length (code_bytes M side tree) + 24
    list_refused r refused e = omega (arith, refused-length M.list cs front cs_few cs_small r refused (answer_is r e))

    -- the trailer that is written is the tree's
    pub trailer-is : (n : ℕ) (t : Trailer) → n ≡ length (code_bytes M side tree) → t.length ≡ n → t.hits ≡ length tree → t.root ≡ root tree → t.side ≡ side → t.make ≡ M.number → t ≡ trailer M side tree
    trailer-is n t long l h r s m = λ i. record { length = (l ∙ long) i; hits = h i; root = r i; side = s i; make = m i }

    abbrev string : List ℕ
    string = code_bytes M side tree

    abbrev tail : List ℕ
    tail = trailer_bytes (trailer M side tree)

    -- the list stands at the front of the bytes
    abbrev listed_bytes : List ℕ
    listed_bytes = (string ++ drop (length string) (take front out)) ++ drop front out

    listed-is : (listed : List ℕ) → listed ≡ M.list.string ns ++ drop (length (M.list.string ns)) (take front out) → listed ++ drop front out ≡ listed_bytes
    listed-is listed e = ap (λ l. l ++ drop front out) (e ∙ ap (λ l. M.list.string l ++ drop (length (M.list.string l)) (take front out)) is)

    pub bytes_left : (n : ℕ) (t : Trailer) (listed put : List ℕ) → n ≡ length string → n + 24 ≤ length out → t ≡ trailer M side tree
        → listed ≡ M.list.string ns ++ drop (length (M.list.string ns)) (take front out)
        → put ≡ trailer_bytes t ++ drop 24 (take (length (listed ++ drop front out) - n) (drop n (listed ++ drop front out)))
        → put_mid n (length (listed ++ drop front out) - n) (listed ++ drop front out) put ≡ spot M side tree ++ drop (length (spot M side tree)) out
    bytes_left n t listed put long inside is-t e is-put =
        let whole = listed-is listed e in
        let within : length string ≤ front = omega arith in
        let put_is : put ≡ tail ++ drop 24 (drop (length string) out) =
        is-put
        ∙ (λ i. trailer_bytes (is-t i) ++ drop 24 (take (length (whole i) - long i) (drop (long i) (whole i))))
        ∙ ap (λ l. tail ++ drop 24 l) (behind_list string tail out front within (omega arith) (trailer_long (trailer M side tree))) in
        ap (λ z. put_mid n (length z - n) z put) whole
        ∙ ap (put_mid n (length listed_bytes - n) listed_bytes) put_is
        ∙ spot-written string tail out front within (omega arith) (trailer_long (trailer M side tree)) n long
