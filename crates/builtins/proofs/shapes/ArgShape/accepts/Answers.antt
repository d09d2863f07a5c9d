use Rattle.std.proofs.Common.{ap, sym, refl, ◌∙◌}
use Rattle.semantics.specs.Builtins.{s_list, s_string, s_list_or_string, s_graph_entity, s_map, s_graph_entity_or_map}
use Rattle.builtins.proofs.Laws.{accepts_all, accepts-named, names}
use Rattle.builtins.proofs.shapes.ArgShape.accepts.Goals as goal

pub returns-in-Any : goal.returns-in-Any
returns-in-Any c t e = rw c.in-Any.is (sym (accepts_all t))

pub returns-in-List : goal.returns-in-List
returns-in-List c t e = rw c.in-List.is (c.contains.ensures.value ∙ ap (names s_list) (sym e) ∙ sym (accepts-named s_list refl t))

pub returns-in-String : goal.returns-in-String
returns-in-String c t e = rw c.in-String.is (c.contains-in-String.ensures.value ∙ ap (names s_string) (sym e) ∙ sym (accepts-named s_string refl t))

pub returns-in-ListOrString : goal.returns-in-ListOrString
returns-in-ListOrString c t e = rw c.in-ListOrString.is (c.contains-in-ListOrString.ensures.value ∙ ap (names s_list_or_string) (sym e) ∙ sym (accepts-named s_list_or_string refl t))

pub returns-in-GraphEntity : goal.returns-in-GraphEntity
returns-in-GraphEntity c t e = rw c.in-GraphEntity.is (c.contains-in-GraphEntity.ensures.value ∙ ap (names s_graph_entity) (sym e) ∙ sym (accepts-named s_graph_entity refl t))

pub returns-in-Map : goal.returns-in-Map
returns-in-Map c t e = rw c.in-Map.is (c.contains-in-Map.ensures.value ∙ ap (names s_map) (sym e) ∙ sym (accepts-named s_map refl t))

pub returns-in-GraphEntityOrMap : goal.returns-in-GraphEntityOrMap
returns-in-GraphEntityOrMap c t e = rw c.in-GraphEntityOrMap.is (c.contains-in-GraphEntityOrMap.ensures.value ∙ ap (names s_graph_entity_or_map) (sym e) ∙ sym (accepts-named s_graph_entity_or_map refl t))
