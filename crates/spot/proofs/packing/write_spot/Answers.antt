use Rattle.std.proofs.Common.{◌≡◌, ℕ, ◌+◌, ◌-◌, ◌≤◌, List, length, take, is_ok, Ok, Some, None, Option, SomeIff, sym, refl, ap, ◌∙◌, arith}
use Rattle.std.proofs.lemmas.Grind.{common_steps}
use Rattle.numlist.specs.Calls.{written}
use Rattle.spot.specs.Codes.{codes, codes_to}
use Rattle.spot.specs.Spots.{meant, code_bytes}
use Rattle.spot.proofs.Spotting.{Packable, no_room, has_room, list_short, list_written, list_refused, trailer-is, bytes_left}
use Rattle.spot.proofs.Writing.{sent}
use Rattle.spot.proofs.packing.write_spot.Given as given
use Rattle.spot.proofs.packing.write_spot.Goals as goal
use Rattle.spot.proofs.packing.write_spot.Goals.{After-put_codes, In_ok-length}

packable : (g : given.Over) (c : After-put_codes g) → Packable (meant c.args.make.now) c.args.grid c.args.tree.now
packable g c = record {
  wide = (c.args.make.now.far, c.args.make.now.near);
  laws = g.met.C.CellCode.sound c.args.make.now.code;
  sound = g.met.L.NumberList.sound c.args.make.now.list;
  few = c.requires.few;
  placed = c.requires.placed;
}

-- the codes are then in the scratch
coded : (g : given.Over) (c : After-put_codes g) → c.put_codes.new.out ≡ codes (g.C.CellCode.code c.args.make.now.code c.args.grid.side) c.args.tree.now
coded g c =
    let tree = c.args.tree.now in
    c.put_codes.ensures (length tree) (omega arith)
    ∙ ap (λ r. codes_to (length tree) (g.C.CellCode.code c.args.make.now.code c.args.grid.side) r tree) c.root-root.ensures

pub returns-in_err-room-clause-answer : goal.returns-in_err-room-clause-answer
returns-in_err-room-clause-answer g c =
    let refused = no_room _ _ _ (packable g (goal.at.returns-in_err-room-clause-answer g c).After-put_codes) (length c.args.out.now) in
    grind (arith, common_steps, refused)

-- the bytes but the last 24
behind : (out : List ℕ) (o : Option ℕ) (room : ℕ) → SomeIff o (24 ≤ length out) (length out - 24) → o ≡ Some room → room + 24 ≡ length out
behind out (Some x) room h is = let e : x ≡ room = cc in omega arith
behind out None room h is = absurd (let z : ◌≡◌ {A = Option ℕ} None (Some room) = is in cc)

pub returns-in_err-length-clause-answer : goal.returns-in_err-length-clause-answer
returns-in_err-length-clause-answer g c =
    let before = (goal.at.returns-in_err-length-clause-answer g c).After-put_codes in
    let p = packable g before in
    let room = behind _ _ _ c.checked_sub.ensures c.in_ok-room.ensures.ok_part in
    let unsent = c.in_err-length.ensures in
    let short = list_refused _ _ _ p c.args.out.now _ (coded g before) _ room _ unsent.variant c.write.ensures.answer in
    let refused = no_room _ _ _ p (length c.args.out.now) short in
    grind (arith, common_steps, refused)

accepted : (g : given.Over) (c : In_ok-length g) → c.write.result ≡ Ok c.in_ok-length.length
accepted g c = let e = c.in_ok-length.ensures in sent _ c.write.result c.in_ok-length.length e.cases

-- the list has its length and leaves room for the trailer
told : (g : given.Over) (c : In_ok-length g) → Packable (meant c.args.make.now) c.args.grid c.args.tree.now
    → c.put_codes.new.out ≡ codes (g.C.CellCode.code c.args.make.now.code c.args.grid.side) c.args.tree.now
    → (c.in_ok-length.length ≡ length (code_bytes (meant c.args.make.now) c.args.grid.side c.args.tree.now)) × (c.in_ok-length.length + 24 ≤ length c.args.out.now)
told g c p is =
    let room = behind _ _ _ c.checked_sub.ensures c.in_ok-room.ensures.ok_part in
    list_written _ _ _ p c.args.out.now _ is _ room _ (sym (accepted g c) ∙ c.write.ensures.answer)

pub overflow_cast-trailer : goal.overflow_cast-trailer
overflow_cast-trailer g c =
    let at = goal.at.overflow_cast-trailer g c in
    let p = packable g at.After-put_codes in
    let long = (told g at.In_ok-length p (coded g at.After-put_codes)).0 in
    omega (arith, long, list_short _ _ _ p)

pub returns-clause-answer : goal.returns-clause-answer
returns-clause-answer g c =
    let at = goal.at.returns-clause-answer g c in
    let p = packable g at.After-put_codes in
    let t = told g at.In_ok-length p (coded g at.After-put_codes) in
    has_room _ _ _ p (length c.args.out.now) _ t.0 t.1

pub returns-clause-bytes : goal.returns-clause-bytes
returns-clause-bytes g c =
    let at = goal.at.returns-clause-bytes g c in
    let p = packable g at.After-put_codes in
    let is = coded g at.After-put_codes in
    let n = c.in_ok-length.length in
    let t = told g at.In_ok-length p is in
    let room = behind _ _ _ c.checked_sub.ensures c.in_ok-room.ensures.ok_part in
    let listed = c.write.ensures.bytes ∙ ap (λ r. written (g.L.NumberList.meaning c.args.make.now.list) c.put_codes.new.out (take c.in_ok-room.room c.args.out.now) (is_ok r)) (accepted g at.In_ok-length) in
    bytes_left _ _ _ p c.args.out.now _ is _ room n _ _ _ t.0 t.1
    (trailer-is _ _ _ p c.args.out.now _ is _ room n _ t.0 refl refl c.root-root.ensures c.side.ensures refl)
    listed c.put.ensures
