use Rattle.std.proofs.Common.{◌≡◌, ◌<◌, [], length, get_or, ap, ◌∙◌, arith}
use Rattle.std.proofs.lemmas.List.{get_or_default}
use Rattle.report_rows.specs.Orders.{cost_at}
use Rattle.report_rows.specs.Ranks.{first_place, rank_of}
use Rattle.report_rows.specs.Tables.{lists}
use Rattle.report_rows.proofs.OrderLemmas.{All_of_list, made_more, rank_is, rank_with, read_list}
use Rattle.report_rows.proofs.order.ranks.Goals as goal

pub least_of-requires : goal.least_of-requires
least_of-requires c =
    let i = c.groups.group in
    let members = c.args.members.now in
    let inside : i < length members = omega (arith, c.groups-test.true, c.requires.members) in
    All_of_list (λ f. f < length c.args.places.now) members i c.deref.result.now c.requires.places inside
    (read_list members i c.index-members-group.result c.deref.result.now inside c.index-members-group.is
    c.deref.ensures.value)

pub groups-preserved : goal.groups-preserved
groups-preserved c =
    let i = c.groups.group in
    let members = c.args.members.now in
    let costs = c.args.costs.now in
    let places = c.args.places.now in
    let sort = c.args.sort in
    let inside : i < length members = omega (arith, c.groups-test.true, c.requires.members) in
    let cost : c.at.result ≡ cost_at costs sort i =
    c.at.ensures
    ∙ ap (λ xs. get_or xs sort 0) (c.index-costs-group.is
    ∙ get_or_default costs i c.index-costs-group.result [] c.groups-test.true) in
    let least = c.least_of.ensures
    ∙ ap (first_place places) (read_list members i c.index-members-group.result c.deref.result.now inside
    c.index-members-group.is c.deref.ensures.value) in
    made_more (rank_of costs sort (lists members) places) c.groups.ranks.items
    (rank_with c.at.result c.least_of.result i) i c.push.new.self.items c.groups.invariant
    (rank_is costs sort (lists members) places i c.at.result c.least_of.result cost least) c.in_ok-push.ensures.items
